-- Bytes that begin with parts of a record file.
use Rattle.std.specs.Prelude.{◌≡◌, ℕ, ◌≤◌, List, ◌++◌, length}
use Rattle.std.specs.List.{AllByRecursion, flat_map}
use Rattle.rv_base.specs.declared.limits.TheConstants.{SHARD_SIZE_LIMIT, SHARDS_LIMIT}
use Rattle.rv_base.specs.declared.record.Header.{Header}
use Rattle.rv_spec.specs.Trace.{Row}
use Rattle.rv_spec.specs.Record.{Shard, row_bytes, shard_bytes}
use Rattle.rv_spec.specs.Grammar.{RowFits, ShardFits, ShardsFit}

-- The bytes are the spelling of these rows, and then others.
pub record SpellRows (rs : List Row) (bytes rest : List ℕ) : Type 0 where
  pub fit : AllByRecursion RowFits rs
  pub are : bytes ≡ flat_map row_bytes rs ++ rest

-- The bytes are the spelling of shard i, and then others.
pub record SpellShard (h : Header) (i : ℕ) (s : Shard) (bytes rest : List ℕ) : Type 0 where
  pub fits : ShardFits h i s
  pub are : bytes ≡ shard_bytes s ++ rest

-- The bytes are the spelling of all shards, and then others.
pub record SpellShards (h : Header) (ss : List Shard) (bytes rest : List ℕ) : Type 0 where
  pub count : length ss ≡ h.shards
  pub fit : ShardsFit h 0 ss
  pub are : bytes ≡ flat_map shard_bytes ss ++ rest

-- the size and the number of shards are within their limits
pub record IsWithin (h : Header) : Type 0 where
  pub size : h.size ≤ SHARD_SIZE_LIMIT
  pub shards : h.shards ≤ SHARDS_LIMIT

-- the rows of all these shards
abbrev pub rows_of_all : List Shard → List Row
rows_of_all ss = flat_map (λ s. s.rows) ss
