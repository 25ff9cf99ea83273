use Rattle.std.proofs.Common.{◌≡◌, ◌-◌}
use Rattle.rv_file.specs.Skipping.{shards_left}
use Rattle.rv_file.proofs.skipping.skip_shards.Given as goal

abbrev pub invariant-loop-shard : goal.invariant-loop-shard
invariant-loop-shard l = shards_left (l.h.shards - l.shard) l.h l.shard l.rest ≡ shards_left l.h.shards l.h 0 l.bytes
