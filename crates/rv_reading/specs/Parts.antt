-- What the machine reads of each part of a file is what the definition by whole parts reads of it.
use Rattle.std.specs.Prelude.{◌≡◌, ℕ, zero, ◌+◌, ◌*◌, Bool, List, [], ◌∷◌, ◌++◌, length, drop, map, Option, None, Ok, nat_le}
use Rattle.rv_base.specs.declared.rules.TheConstants.{SHORT}
use Rattle.rv_base.specs.declared.layout.TheConstants.{COUNT_BYTES}
use Rattle.rv_base.specs.declared.record.Header.{Header}
use Rattle.rv_base.specs.declared.record.Place.{Place}
use Rattle.rv_base.specs.declared.record.ShardHead.{ShardHead}
use Rattle.rv_base.specs.declared.record.Tuple.{Tuple}
use Rattle.rv_spec.specs.Words.{u32_at}
use Rattle.rv_spec.specs.Digest.{Lanes}
use Rattle.rv_spec.specs.Tuples.{Event, events, tuple_last}
use Rattle.rv_spec.specs.Record.{rows_length}
use Rattle.rv_rules.specs.Checks.{unless_broken, ◌>>=◌}
use Rattle.rv_rules.specs.Reading.{read_rows, read_shard, read_shards, read_entries}
use Rattle.rv_reading.specs.Stream.{State, reads}
use Rattle.rv_reading.specs.Machine.{Sums, no_sums, Inside, Phase, Extent, tuple_sums, event_sums, shards_events, last_cell, first_tuple, step, step_to}
use Rattle.rv_reading.specs.Machine.Phase.{Shards, Rows, Entries}
use Rattle.rv_reading.specs.Machine.Extent.{WholeFile, ShardsAlone, TableAlone}

module _ (complete : Bool) (lanes : Lanes) (elf input : List ℕ) (h : Header) (output : List ℕ) where
  -- what comes of a phase and the bytes from it on, in a reading that goes so far
  abbrev pub runs : Extent → Phase → List ℕ → State Phase
  runs extent p bytes = reads (step_to complete lanes elf input h output extent) p bytes

  -- in the reading of a whole file nothing ends but the file
  abbrev pub WholeFileIsRead : Type 0
  WholeFileIsRead = (p : Phase) (bytes : List ℕ) → runs WholeFile p bytes ≡ reads (step complete lanes elf input h output) p bytes

  -- within a shard, behind rows of so many bytes with these events
  abbrev pub inside : ShardHead → ℕ → List Event → Inside
  inside head bytes es = record { head = head; bytes = bytes; sums = event_sums complete lanes es }

  -- n rows of shard i from row r on, in a reading of any extent
  abbrev pub RowsAreRead : Type 0
  RowsAreRead = (extent : Extent) (n r m i : ℕ) (head : ShardHead) (size : ℕ) (es : List Event) (p : Place) (all : Sums) (bytes : List ℕ)
      → runs extent (Rows n r m i (inside head size es) p all) bytes
      ≡ (read_rows complete lanes elf input n h output i r p bytes
      >>= λ x. runs extent (Rows zero (r + n) m i (inside head (size + rows_length x.part) (es ++ events (i * h.size + r) x.part)) x.place all) x.left)

  -- n shards from shard i on
  abbrev pub ShardsAreRead : Type 0
  ShardsAreRead = (extent : Extent) (n i : ℕ) (es : List Event) (p : Place) (bytes : List ℕ)
      → runs extent (Shards n i p (event_sums complete lanes es)) bytes
      ≡ (read_shards complete lanes elf input n h output i p bytes
      >>= λ x. runs extent (Shards zero (i + n) x.place (event_sums complete lanes (es ++ shards_events h i x.part))) x.left)

  -- n entries of the table from entry j on, behind tuples that were read and written
  abbrev pub EntriesAreRead : Type 0
  EntriesAreRead = (extent : Extent) (n j : ℕ) (before : Option ℕ) (p : Place) (rs ws : List Tuple) (bytes : List ℕ)
      → runs extent (Entries n j before p (tuple_sums complete lanes rs ws)) bytes
      ≡ (read_entries n h j before bytes
      >>= λ x. runs extent
      (Entries zero (j + n) (last_cell before x.0) p (tuple_sums complete lanes (rs ++ map tuple_last x.0) (ws ++ map (first_tuple elf h) x.0)))
      x.1)

  -- Shard i alone, from a stated place: the place behind it, the digests of its rows, and the bytes left.
  abbrev pub ShardAloneIsRead : Type 0
  ShardAloneIsRead = (i : ℕ) (p : Place) (bytes : List ℕ)
      → runs ShardsAlone (Shards 1 i p no_sums) bytes
      ≡ (read_shard complete lanes elf input h output i p bytes
      >>= λ x. Ok (Shards 0 (i + 1) x.place (event_sums complete lanes (events (i * h.size) x.part.rows)), x.left))

  -- n shards alone, from shard i and a stated place on
  abbrev pub ShardsAloneAreRead : Type 0
  ShardsAloneAreRead = (n i : ℕ) (p : Place) (bytes : List ℕ)
      → runs ShardsAlone (Shards n i p no_sums) bytes
      ≡ (read_shards complete lanes elf input n h output i p bytes
      >>= λ x. Ok (Shards zero (i + n) x.place (event_sums complete lanes (shards_events h i x.part)), x.left))

  -- The table alone, from its count on: the digests of its tuples, and the bytes left.
  abbrev pub TableAloneIsRead : Type 0
  TableAloneIsRead = (i : ℕ) (p : Place) (bytes : List ℕ)
      → runs TableAlone (Shards 0 i p no_sums) bytes
      ≡ (unless_broken h.shards 0 ((SHORT, nat_le COUNT_BYTES (length bytes)) ∷ []) (drop COUNT_BYTES bytes)
      >>= λ rest. read_entries (u32_at bytes 0) h 0 None rest
      >>= λ x. Ok (Entries zero (u32_at bytes 0) (last_cell None x.0) p (tuple_sums complete lanes (map tuple_last x.0) (map (first_tuple elf h) x.0)), x.1))
