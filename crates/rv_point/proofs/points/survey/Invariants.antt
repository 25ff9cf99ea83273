use Rattle.std.proofs.Common.{◌≡◌, ◌-◌, ◌+◌, map}
use Rattle.std.specs.List.{range_with_len}
use Rattle.rv_base.specs.declared.limits.TheConstants.{SHARDS_LIMIT}
use Rattle.rv_point.specs.Start.{shard_start}
use Rattle.rv_point.proofs.points.survey.Given as goal

abbrev pub invariant-loop-starts : goal.invariant-loop-starts
invariant-loop-starts l = record {
  image : l.walk.image ≡ l.image;
  input : l.walk.input ≡ l.input;
  size : l.walk.size ≡ l.size;
  budget : l.walk.budget ≡ l.budget;
  starts : l.starts.items ≡ map (shard_start l.image l.input l.size) (range_with_len 0 l.walk.given);
}

abbrev pub decreases-loop-starts : goal.decreases-loop-starts
decreases-loop-starts l = SHARDS_LIMIT + 1 - l.walk.given
