-- Where the shards of a record file begin, by what the heads before them state.
use Rattle.std.specs.Prelude.{◌≡◌, ℕ, ◌<◌, ◌≤◌, List, length, drop, slice_index}
use Rattle.rv_base.specs.declared.layout.TheConstants.{HEAD_BYTES}
use Rattle.rv_file.specs.Parsing.{behind_shards}

-- The first shards of so many, as far as their heads are there: each begins at its place, counted from the first.
pub record AreStarts (shards : List ℕ) (total : ℕ) (starts : List ℕ) : Type 0 where
  pub few : length starts ≤ total
  pub each : (i : ℕ) → i < length starts → drop (slice_index starts i) shards ≡ behind_shards i shards
  pub next : length starts < total → length (behind_shards (length starts) shards) < HEAD_BYTES
