-- The reading of a record file behind its header and output, phase by phase, with the digests of what it has read as running sums.
use Rattle.std.specs.Prelude.{ℕ, zero, suc, ◌+◌, ◌*◌, Bool, true, false, ◌&&◌, List, [], ◌∷◌, ◌++◌, length, drop, map, replicate, Option, Some, None, Result, Ok, Err, take, bytes_eq, nat_lt, nat_le, ◌==◌, if◌then◌else◌}
use Rattle.rv_base.specs.declared.rules.TheConstants.{SHORT, SHARD_HEAD, ROW_BYTES, SHARD_DIGEST, TABLE_ORDER, TABLE_CELL, TABLE_TIME, LEFT, BALANCE, TRAILING}
use Rattle.rv_base.specs.declared.layout.TheConstants as at
use Rattle.rv_base.specs.declared.record.Header.{Header}
use Rattle.rv_base.specs.declared.record.Place.{Place}
use Rattle.rv_base.specs.declared.record.Refusal.{Refusal}
use Rattle.rv_base.specs.declared.record.ShardHead.{ShardHead}
use Rattle.rv_base.specs.declared.record.TableEntry.{TableEntry}
use Rattle.rv_base.specs.declared.record.Tuple.{Tuple}
use Rattle.rv_base.specs.declared.record.Verdict.{Verdict}
use Rattle.rv_base.specs.declared.record.Verdict.TheVariants.{Accept, Refuse}
use Rattle.rv_spec.specs.Words.{u32_at}
use Rattle.rv_spec.specs.Elf.{image}
use Rattle.rv_spec.specs.Cells.{is_cell, initial_value}
use Rattle.rv_spec.specs.Trace.{Row}
use Rattle.rv_spec.specs.Digest.{Lanes, digest}
use Rattle.rv_rules.specs.Sums.{add_lanes}
use Rattle.rv_spec.specs.Tuples.{Event, event, events, tuple_read, tuple_written, tuple_last, tuple_first}
use Rattle.rv_spec.specs.Record.{Shard, shard_rows, row_length}
use Rattle.rv_rules.specs.Checks.{Check, unless_broken, ◌>>=◌}
use Rattle.rv_rules.specs.Reading.{head_of, row_of, digest_of, entry_of, same_place, row_form, row_size, above, when_complete, row_checks_when_complete, next_place, header_of, header_checks, first_place}
use Rattle.rv_reading.specs.Stream.{Found, State, reads, until}

-- the digests of what was read and of what was written
pub record Sums : Type 0 where
  pub reads : List ℕ
  pub writes : List ℕ

abbrev pub no_sums : Sums
no_sums = record { reads = replicate 16 0; writes = replicate 16 0 }

-- within a shard: its head, the bytes of its rows so far, and the digests of these rows
pub record Inside : Type 0 where
  pub head : ShardHead
  pub bytes : ℕ
  pub sums : Sums

-- What comes next, with the place and the digests of the shards before it:
-- n shards from shard i on, and then the number of the table's entries;
-- n rows of shard i from row r on, and then its digests, and then m shards;
-- n entries of the table from entry j on, which come after this cell if there is one, and then the end.
pub data Phase : Type 0 where
  Shards : (n i : ℕ) (place : Place) (all : Sums) → Phase
  Rows : (n r m i : ℕ) (shard : Inside) (place : Place) (all : Sums) → Phase
  Entries : (n j : ℕ) (before : Option ℕ) (place : Place) (all : Sums) → Phase

-- how far to read: to the end of the file, or the shards alone, or the table alone
pub data Extent : Type 0 where
  WholeFile : Extent
  ShardsAlone : Extent
  TableAlone : Extent

abbrev pub is_shards_alone : Extent → Bool
is_shards_alone ShardsAlone = true
is_shards_alone other = false

abbrev pub is_table_alone : Extent → Bool
is_table_alone TableAlone = true
is_table_alone other = false

-- whether the reading ends at this phase
abbrev pub is_behind : Extent → Phase → Bool
is_behind extent (Shards zero i p all) = is_shards_alone extent
is_behind extent (Entries zero j before p all) = is_table_alone extent
is_behind extent q = false

-- a phase and the bytes left, where the checks hold
abbrev pub on_if : ℕ → ℕ → List Check → Phase → List ℕ → Found Phase
on_if shard row cs q rest = unless_broken shard row cs (Some (q, rest))

-- digests are summed only where they are judged
module _ (complete : Bool) (lanes : Lanes) where
  -- the digests of these tuples
  abbrev pub tuple_sums : List Tuple → List Tuple → Sums
  tuple_sums read written = record {
    reads = if complete then digest lanes read else replicate 16 0;
    writes = if complete then digest lanes written else replicate 16 0;
  }

  abbrev pub event_sums : List Event → Sums
  event_sums es = tuple_sums (map tuple_read es) (map tuple_written es)

  -- with these tuples more
  abbrev pub with_tuples : Sums → List Tuple → List Tuple → Sums
  with_tuples s read written = record {
    reads = if complete then add_lanes s.reads (digest lanes read) else s.reads;
    writes = if complete then add_lanes s.writes (digest lanes written) else s.writes;
  }

  abbrev pub with_events : Sums → List Event → Sums
  with_events s es = with_tuples s (map tuple_read es) (map tuple_written es)

  abbrev pub with_sums : Sums → Sums → Sums
  with_sums s t = record {
    reads = if complete then add_lanes s.reads t.reads else s.reads;
    writes = if complete then add_lanes s.writes t.writes else s.writes;
  }

  abbrev pub with_row : Inside → ℕ → Row → Inside
  with_row s step row = record { head = s.head; bytes = s.bytes + row_length row; sums = with_events s.sums (map (event step) row.accesses) }

abbrev pub begin_shard : ShardHead → Inside
begin_shard head = record { head = head; bytes = 0; sums = no_sums }

-- the events of shards from shard i on, each counted from the first step that is due in it
abbrev pub shards_events : Header → ℕ → List Shard → List Event
shards_events h i [] = []
shards_events h i (s ∷ ss) = events (i * h.size) s.rows ++ shards_events h (i + 1) ss

-- the tuple by which a cell of the table is written before the first step of a program
abbrev pub first_tuple : List ℕ → Header → TableEntry → Tuple
first_tuple elf h e = tuple_first (initial_value (image h.version elf)) e

-- the cell of the last entry, if there is one
abbrev pub last_cell : Option ℕ → List TableEntry → Option ℕ
last_cell before [] = before
last_cell before (e ∷ es) = last_cell (Some e.cell) es

module _ (complete : Bool) (lanes : Lanes) (elf input : List ℕ) (h : Header) (output : List ℕ) where
  abbrev pub good_digests : List ℕ → Sums → Bool
  good_digests bytes s = when_complete complete lanes elf input (bytes_eq (digest_of bytes) s.reads && bytes_eq (digest_of (drop at.DIGEST_BYTES bytes)) s.writes)

  -- the next phase, or the first broken check
  unfoldable pub step : Phase → List ℕ → Found Phase
  step (Shards zero i p all) bytes = on_if h.shards 0 ((SHORT, nat_le at.COUNT_BYTES (length bytes)) ∷ []) (Entries (u32_at bytes 0) 0 None p all) (drop at.COUNT_BYTES bytes)
  step (Shards (suc n) i p all) bytes =
      let head = head_of bytes in
      let rows = shard_rows h.size h.steps i in
      on_if i 0 ((SHORT, nat_le at.HEAD_BYTES (length bytes)) ∷ (SHARD_HEAD, head.index == i && head.rows == rows && when_complete complete lanes elf input (same_place head p)) ∷ []) (Rows rows 0 n i (begin_shard head) p all) (drop at.HEAD_BYTES bytes)
  step (Rows zero r m i s p all) bytes =
      on_if i r ((ROW_BYTES, s.bytes == s.head.bytes) ∷ (SHORT, nat_le at.DIGESTS_BYTES (length bytes)) ∷ (SHARD_DIGEST, good_digests bytes s.sums) ∷ []) (Shards m (i + 1) p (with_sums complete lanes all s.sums)) (drop at.DIGESTS_BYTES bytes)
  step (Rows (suc n) r m i s p all) bytes =
      let row = row_of bytes in
      let k = i * h.size + r in
      on_if i r (row_form bytes ++ row_checks_when_complete complete lanes elf input h output row k p)
      (Rows n (r + 1) m i (with_row complete lanes s k row) (next_place complete lanes elf input h row p) all)
      (drop (row_size bytes) bytes)
  step (Entries zero j before p all) bytes =
      unless_broken h.shards j
      ((LEFT, when_complete complete lanes elf input (p.input == h.consumed && p.output == h.length))
      ∷ (BALANCE, when_complete complete lanes elf input (bytes_eq all.reads all.writes))
      ∷ (TRAILING, length bytes == 0)
      ∷ [])
      None
  step (Entries (suc n) j before p all) bytes =
      let e = entry_of bytes in
      on_if h.shards j
      ((SHORT, nat_le at.ENTRY_BYTES (length bytes)) ∷ (TABLE_ORDER, above before e.cell) ∷ (TABLE_CELL, is_cell h.version e.cell) ∷ (TABLE_TIME, nat_lt 0 e.time) ∷ [])
      (Entries n (j + 1) (Some e.cell) p (with_tuples complete lanes all (tuple_last e ∷ []) (first_tuple elf h e ∷ [])))
      (drop at.ENTRY_BYTES bytes)

  -- the step of a reading that goes so far
  abbrev pub step_to : Extent → Phase → List ℕ → Found Phase
  step_to extent = until (is_behind extent) step

-- ---- a file, for a program and an input; where `complete` is false, its form alone

module _ (complete : Bool) (lanes : Lanes) (elf input : List ℕ) where
  -- before the first shard, where this header and output come in front
  abbrev pub first_phase : Header → Phase
  first_phase h = Shards h.shards 0 (first_place complete lanes elf input h) no_sums

  -- The first bytes of a file, header and output, are judged as they are, and then the machine reads on.
  abbrev pub opened : List ℕ → State Phase
  opened front = unless_broken 0 0 (header_checks complete lanes elf input front) (first_phase (header_of front), [])

  -- what comes of a whole file
  abbrev pub judged : List ℕ → State Phase
  judged file = do
    let h = header_of file
    behind ← unless_broken 0 0 (header_checks complete lanes elf input file) (drop at.HEADER_BYTES file)
    reads (step complete lanes elf input h (take h.length behind)) (first_phase h) (drop h.length behind)

-- a law of the machine, for form alone and for a program and an input, under every lanes, header and output
abbrev pub InEachReading : (Bool → Lanes → List ℕ → List ℕ → Header → List ℕ → Type 0) → Type 0
InEachReading law = (complete : Bool) (lanes : Lanes) (elf input : List ℕ) (h : Header) (output : List ℕ) → law complete lanes elf input h output

-- whether something was refused, without what was read
abbrev pub finding : {A : Type 0} → Result A Refusal → Result (Unit {0}) Refusal
finding r = r >>= λ _. Ok tt

-- the verdict on a file with this header
abbrev pub told : {A : Type 0} → Header → Result A Refusal → Verdict
told h (Ok x) = Accept h.steps h.shards h.end
told h (Err r) = Refuse r
