-- The starts of a run.
use Rattle.std.specs.Prelude.{◌≡◌, ◌<◌, ℕ, List}
use Rattle.std.specs.Int.{IsInRange}
use Rattle.rv_base.specs.declared.limits.TheConstants.{SHARD_SIZE_LIMIT, SHARDS_LIMIT}
use Rattle.rv_spec.specs.Elf.{Image}
use Rattle.rv_point.specs.declared.start.ShardStart.{ShardStart}
use Rattle.rv_point.specs.Start.{HasShard, shard_start}

-- it is the start of the shard of its index, at this shard size
pub record IsDue (i : Image) (input : List ℕ) (size : ℕ) (s : ShardStart) : Type 0 where
  pub size_within : IsInRange 1 SHARD_SIZE_LIMIT size
  pub few : s.index < SHARDS_LIMIT
  pub has : HasShard i input size s.index
  pub is : s ≡ shard_start i input size s.index
