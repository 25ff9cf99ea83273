-- The last shard of a file: a private step of what blocks an upgrade.
use Rattle.std.specs.Prelude.{◌≡◌, ℕ, ◌-◌, ◌<◌, ◌≤◌, List, [], ◌∷◌, ◌++◌, length}
use Rattle.rv_base.specs.declared.layout.TheConstants.{HEAD_BYTES}
use Rattle.rv_spec.specs.Record.{Parts, Shard, shard_rows, shard_bytes}
use Rattle.rv_spec.specs.Grammar.{ShardFits}

-- the bytes begin with the last shard, which has a row
pub record BeginWithLast (p : Parts) (bytes : List ℕ) : Type 0 where
  pub before : List Shard
  pub shard : Shard
  pub rest : List ℕ
  pub some : 0 < p.header.shards
  pub all : p.shards ≡ before ++ (shard ∷ [])
  pub fits : ShardFits p.header (p.header.shards - 1) shard
  pub rows : 0 < shard_rows p.header.size p.header.steps (p.header.shards - 1)
  pub are : bytes ≡ shard_bytes shard ++ rest
  pub head : HEAD_BYTES ≤ length bytes
