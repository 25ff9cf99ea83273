-- What is left of a file behind its parts, by their form alone: private steps of parsing.
use Rattle.std.specs.Prelude.{◌≡◌, ℕ, zero, suc, ◌+◌, ◌-◌, false, ◌&&◌, List, [], ◌∷◌, length, drop, Option, Some, None, Result, Ok, Err, nat_le, ◌==◌}
use Rattle.rv_base.specs.declared.rules.TheConstants.{SHORT, SHARD_HEAD, ROW_BYTES, TRAILING}
use Rattle.rv_base.specs.declared.layout.TheConstants as at
use Rattle.rv_base.specs.declared.record.Header.{Header}
use Rattle.rv_base.specs.declared.record.Refusal.{Refusal}
use Rattle.rv_base.specs.declared.record.ShardHead.{ShardHead}
use Rattle.rv_spec.specs.Record.{shard_rows}
use Rattle.rv_spec.specs.Words.{u32_at}
use Rattle.rv_rules.specs.Sums.{tiny_lanes}
use Rattle.rv_rules.specs.Reading.{header_of, header_checks, head_of, row_form, row_size, read_entry}
use Rattle.rv_rules.specs.Checks.{unless_broken, ◌>>=◌}

-- What a function returned, seen by view, is what reading gives.
abbrev pub IsViewOf : {X Y : Type 0} → (X → Y) → Result X Refusal → Result Y Refusal → Type 0
IsViewOf view (Ok x) read = read ≡ Ok (view x)
IsViewOf view (Err e) read = read ≡ Err e

-- behind row r of shard i
abbrev pub row_left : ℕ → ℕ → List ℕ → Result (List ℕ) Refusal
row_left i r bytes = unless_broken i r (row_form bytes) (drop (row_size bytes) bytes)

-- behind n rows from row r on
unfoldable pub rows_left : ℕ → ℕ → ℕ → List ℕ → Result (List ℕ) Refusal
rows_left zero i r bytes = Ok bytes
rows_left (suc n) i r bytes = do
  left ← row_left i r bytes
  rows_left n i (r + 1) left

-- behind the head of shard i, which has n rows
abbrev pub head_left : ℕ → ℕ → List ℕ → Result (List ℕ) Refusal
head_left i n bytes =
    unless_broken i 0 ((SHORT, nat_le at.HEAD_BYTES (length bytes)) ∷ (SHARD_HEAD, (head_of bytes).index == i && (head_of bytes).rows == n) ∷ []) (drop at.HEAD_BYTES bytes)

-- behind the digests, where the rows had this many bytes
abbrev pub digests_left : ℕ → ℕ → ShardHead → ℕ → List ℕ → Result (List ℕ) Refusal
digests_left i n head size bytes = unless_broken i n ((ROW_BYTES, size == head.bytes) ∷ (SHORT, nat_le at.DIGESTS_BYTES (length bytes)) ∷ []) (drop at.DIGESTS_BYTES bytes)

-- behind shard i
unfoldable pub shard_left : Header → ℕ → List ℕ → Result (List ℕ) Refusal
shard_left h i bytes = do
  let n = shard_rows h.size h.steps i
  rows ← head_left i n bytes
  left ← rows_left n i 0 rows
  digests_left i n (head_of bytes) (length rows - length left) left

-- behind n shards from shard i on
unfoldable pub shards_left : ℕ → Header → ℕ → List ℕ → Result (List ℕ) Refusal
shards_left zero h i bytes = Ok bytes
shards_left (suc n) h i bytes = do
  left ← shard_left h i bytes
  shards_left n h (i + 1) left

-- behind n entries of the table from entry j on
unfoldable pub entries_left : ℕ → Header → ℕ → Option ℕ → List ℕ → Result (List ℕ) Refusal
entries_left zero h j before bytes = Ok bytes
entries_left (suc n) h j before bytes = do
  first ← read_entry h j before bytes
  entries_left n h (j + 1) (Some (first.0).cell) first.1

-- The header and the number of entries of a file of good form, or the first check of form that is broken.
unfoldable pub form_left : List ℕ → Result (Header × ℕ) Refusal
form_left file = do
  h ← unless_broken 0 0 (header_checks false tiny_lanes [] [] file) (header_of file)
  table ← shards_left h.shards h 0 (drop (at.HEADER_BYTES + h.length) file)
  entries ← unless_broken h.shards 0 ((SHORT, nat_le at.COUNT_BYTES (length table)) ∷ []) (drop at.COUNT_BYTES table)
  left ← entries_left (u32_at table 0) h 0 None entries
  unless_broken h.shards (u32_at table 0) ((TRAILING, length left == 0) ∷ []) (h, u32_at table 0)
