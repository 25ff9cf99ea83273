-- A record file read from its first byte to its last: its parts, or the first broken check.
use Rattle.std.specs.Prelude.{ℕ, zero, suc, ◌+◌, ◌*◌, Bool, true, not, ◌&&◌, ◌||◌, List, [], ◌∷◌, ◌++◌, length, take, drop, map, Option, Some, None, Result, Ok, bytes_eq, slice_index, nat_lt, nat_le, ◌==◌, if◌then◌else◌}
use Rattle.std.specs.List.{range_with_len}
use Rattle.std.specs.Int.{div_ceil, is_in_range}
use Rattle.sha2.specs.Sha512.{sha512}
use Rattle.rv_base.specs.declared.cells.TheConstants.{SLOTS}
use Rattle.rv_base.specs.declared.machine.TheConstants.{EXIT, MISALIGNED_STORE}
use Rattle.rv_base.specs.declared.limits.TheConstants.{OUTPUT_LIMIT, SHARD_SIZE_LIMIT, SHARDS_LIMIT}
use Rattle.rv_base.specs.declared.rules.TheConstants.{SHORT, MAGIC, PROGRAM, INPUT, SHARD_SIZE, COUNTS, END_KIND, OUTPUT_LENGTH, SHARD_HEAD, ROW_SHAPE, ROW_BYTES as ROW_BYTES_RULE, SHARD_DIGEST, TABLE_ORDER, TABLE_CELL, TABLE_TIME, LEFT, BALANCE, TRAILING}
use Rattle.rv_base.specs.declared.layout.TheConstants as at
use Rattle.rv_base.specs.declared.record.Access.{Access}
use Rattle.rv_base.specs.declared.record.End.{End}
use Rattle.rv_base.specs.declared.record.Header.{Header}
use Rattle.rv_base.specs.declared.record.Place.{Place}
use Rattle.rv_base.specs.declared.record.Refusal.{Refusal}
use Rattle.rv_base.specs.declared.record.ShardHead.{ShardHead}
use Rattle.rv_base.specs.declared.record.TableEntry.{TableEntry}
use Rattle.rv_spec.specs.Words.{u32_at, u64_at}
use Rattle.rv_spec.specs.Elf.{image}
use Rattle.rv_spec.specs.Cells.{is_cell}
use Rattle.rv_spec.specs.Trace.{Row}
use Rattle.rv_spec.specs.Digest.{Lanes, digest}
use Rattle.rv_spec.specs.Tuples.{events, tuple_read, tuple_written}
use Rattle.rv_spec.specs.Record.{Shard, Parts, magic, shard_rows, rows_length, reads, writes}
use Rattle.rv_rules.specs.Checks.{Check, unless_broken, ◌>>=◌}
use Rattle.rv_rules.specs.RowRules.{row_checks, place_after}

-- ---- parts of a file, read from the front of its bytes

-- version 2 is told from version 1 by the eighth byte
abbrev pub header_of : List ℕ → Header
header_of bytes = record {
  version = if slice_index bytes at.VERSION_AT == 0x32 then 2 else 1;
  elf = take at.HASH_BYTES (drop at.ELF_HASH_AT bytes);
  input = take at.HASH_BYTES (drop at.INPUT_HASH_AT bytes);
  size = u32_at bytes at.SIZE_AT;
  steps = u64_at bytes at.STEPS_AT;
  shards = u32_at bytes at.SHARDS_AT;
  end = record { kind = slice_index bytes at.END_KIND_AT; code = u32_at bytes at.END_CODE_AT };
  consumed = u64_at bytes at.CONSUMED_AT;
  length = u64_at bytes at.OUTPUT_LENGTH_AT;
}

abbrev pub head_of : List ℕ → ShardHead
head_of bytes = record {
  index = u32_at bytes at.HEAD_INDEX_AT;
  rows = u32_at bytes at.HEAD_ROWS_AT;
  pc = u32_at bytes at.HEAD_PC_AT;
  input = u64_at bytes at.HEAD_INPUT_AT;
  output = u64_at bytes at.HEAD_OUTPUT_AT;
  bytes = u32_at bytes at.HEAD_ROW_BYTES_AT;
}

abbrev pub access_of : List ℕ → Access
access_of bytes = record {
  slot = slice_index bytes at.ACCESS_SLOT_AT;
  cell = u32_at bytes at.ACCESS_CELL_AT;
  old = u32_at bytes at.ACCESS_OLD_AT;
  prev = u64_at bytes at.ACCESS_PREV_AT;
  new = u32_at bytes at.ACCESS_NEW_AT;
}

-- the bytes of a row, by its number of accesses
abbrev pub row_size : List ℕ → ℕ
row_size bytes = at.ROW_BYTES + at.ACCESS_BYTES * slice_index bytes at.ROW_COUNT_AT

abbrev pub row_of : List ℕ → Row
row_of bytes = record {
  pc = u32_at bytes at.ROW_PC_AT;
  next = u32_at bytes at.ROW_NEXT_AT;
  accesses = map (λ j. access_of (drop (at.ROW_BYTES + at.ACCESS_BYTES * j) bytes)) (range_with_len 0 (slice_index bytes at.ROW_COUNT_AT));
}

abbrev pub digest_of : List ℕ → List ℕ
digest_of bytes = map (λ j. u64_at bytes (8 * j)) (range_with_len 0 16)

abbrev pub entry_of : List ℕ → TableEntry
entry_of bytes = record { cell = u32_at bytes at.ENTRY_CELL_AT; value = u32_at bytes at.ENTRY_VALUE_AT; time = u64_at bytes at.ENTRY_TIME_AT }

-- ---- the whole file

-- what has been read, the place after it, and the bytes left
pub record Reading (A : Type 0) : Type 0 where
  pub part : A
  pub place : Place
  pub left : List ℕ

abbrev pub same_place : ShardHead → Place → Bool
same_place h p = h.pc == p.pc && h.input == p.input && h.output == p.output

-- the checks of a header's numbers
abbrev pub number_checks : Header → List Check
number_checks h =
    (SHARD_SIZE, is_in_range 1 SHARD_SIZE_LIMIT h.size)
    ∷ (COUNTS, nat_le 1 h.steps && h.shards == div_ceil h.steps h.size && nat_le h.shards SHARDS_LIMIT)
    ∷ (END_KIND, nat_le h.end.kind MISALIGNED_STORE && (h.end.kind == EXIT || h.end.code == 0))
    ∷ (OUTPUT_LENGTH, nat_le h.length OUTPUT_LIMIT)
    ∷ []

-- the form of a row, read from these bytes
abbrev pub row_form : List ℕ → List Check
row_form bytes =
    (SHORT, nat_le at.ROW_BYTES (length bytes))
    ∷ (ROW_SHAPE, is_in_range 1 SLOTS (slice_index bytes at.ROW_COUNT_AT))
    ∷ (SHORT, nat_le (row_size bytes) (length bytes))
    ∷ []

-- the header's end, where the step is the last of the file
abbrev pub last_of : Header → ℕ → Option End
last_of h step = if step + 1 == h.steps then Some h.end else None

-- the cell is greater than that of the entry before, if there is one
abbrev pub above : Option ℕ → ℕ → Bool
above None cell = true
above (Some c) cell = nat_lt c cell

-- entry j of the table
abbrev pub read_entry : Header → ℕ → Option ℕ → List ℕ → Result (TableEntry × List ℕ) Refusal
read_entry h j before bytes =
    let e = entry_of bytes in
    unless_broken h.shards j
    ((SHORT, nat_le at.ENTRY_BYTES (length bytes))
    ∷ (TABLE_ORDER, above before e.cell)
    ∷ (TABLE_CELL, is_cell h.version e.cell)
    ∷ (TABLE_TIME, nat_lt 0 e.time)
    ∷ [])
    (e, drop at.ENTRY_BYTES bytes)

-- n entries of the table from entry j on
unfoldable pub read_entries : ℕ → Header → ℕ → Option ℕ → List ℕ → Result (List TableEntry × List ℕ) Refusal
read_entries zero h j before bytes = Ok ([], bytes)
read_entries (suc n) h j before bytes = do
  first ← read_entry h j before bytes
  others ← read_entries n h (j + 1) (Some (first.0).cell) first.1
  Ok (first.0 ∷ others.0, others.1)

-- Where `complete` is false, only the form of the file is judged: neither the program nor the input is looked at.
module _ (complete : Bool) (lanes : Lanes) (elf input : List ℕ) where
  -- a check that looks at the program, the input or the digests
  abbrev pub when_complete : Bool → Bool
  when_complete b = not complete || b

  abbrev pub header_checks : List ℕ → List Check
  header_checks file =
      let h = header_of file in
      (SHORT, nat_le at.HEADER_BYTES (length file))
      ∷ (MAGIC, bytes_eq (take 8 file) (magic h.version))
      ∷ (PROGRAM, when_complete (bytes_eq h.elf (sha512 elf)))
      ∷ (INPUT, when_complete (bytes_eq h.input (sha512 input)))
      ∷ (number_checks h ++ (SHORT, nat_le (at.HEADER_BYTES + h.length) (length file)) ∷ [])

  abbrev pub next_place : Header → Row → Place → Place
  next_place h r p = if complete then place_after h.version r p input else p

  abbrev pub row_checks_when_complete : Header → List ℕ → Row → ℕ → Place → List Check
  row_checks_when_complete h output r step p = if complete then row_checks h.version r step p (last_of h step) input output else []

  -- row r of shard i
  unfoldable pub read_row : Header → List ℕ → ℕ → ℕ → Place → List ℕ → Result (Reading Row) Refusal
  read_row h output i r p bytes =
      let row = row_of bytes in
      let step = i * h.size + r in
      unless_broken i r (row_form bytes ++ row_checks_when_complete h output row step p)
      (record { part = row; place = next_place h row p; left = drop (row_size bytes) bytes })

  -- n rows of shard i from row r on
  unfoldable pub read_rows : ℕ → Header → List ℕ → ℕ → ℕ → Place → List ℕ → Result (Reading (List Row)) Refusal
  read_rows zero h output i r p bytes = Ok (record { part = []; place = p; left = bytes })
  read_rows (suc n) h output i r p bytes = do
    first ← read_row h output i r p bytes
    others ← read_rows n h output i (r + 1) first.place first.left
    Ok (record { part = first.part ∷ others.part; place = others.place; left = others.left })

  -- shard i from a place
  unfoldable pub read_shard : Header → List ℕ → ℕ → Place → List ℕ → Result (Reading Shard) Refusal
  read_shard h output i p bytes = do
    let head = head_of bytes
    let n = shard_rows h.size h.steps i
    behind_head ← unless_broken i 0 ((SHORT, nat_le at.HEAD_BYTES (length bytes)) ∷ (SHARD_HEAD, head.index == i && head.rows == n && when_complete (same_place head p)) ∷ []) (drop at.HEAD_BYTES bytes)
    rows ← read_rows n h output i 0 p behind_head
    let es = events (i * h.size) rows.part
    let stated = digest_of rows.left
    let written = digest_of (drop at.DIGEST_BYTES rows.left)
    unless_broken i n
        ((ROW_BYTES_RULE, rows_length rows.part == head.bytes)
        ∷ (SHORT, nat_le at.DIGESTS_BYTES (length rows.left))
        ∷ (SHARD_DIGEST, when_complete (bytes_eq stated (digest lanes (map tuple_read es)) && bytes_eq written (digest lanes (map tuple_written es))))
        ∷ [])
        (record { part = record { head = head; rows = rows.part; reads = stated; writes = written }; place = rows.place; left = drop at.DIGESTS_BYTES rows.left })

  -- n shards from shard i on
  unfoldable pub read_shards : ℕ → Header → List ℕ → ℕ → Place → List ℕ → Result (Reading (List Shard)) Refusal
  read_shards zero h output i p bytes = Ok (record { part = []; place = p; left = bytes })
  read_shards (suc n) h output i p bytes = do
    first ← read_shard h output i p bytes
    others ← read_shards n h output (i + 1) first.place first.left
    Ok (record { part = first.part ∷ others.part; place = others.place; left = others.left })

  -- the place before the first step
  abbrev pub first_place : Header → Place
  first_place h = record { pc = (image h.version elf).entry; input = 0; output = 0 }

  -- the checks behind the last entry of the table
  abbrev pub end_checks : Header → Parts → Place → List ℕ → List Check
  end_checks h parts p bytes =
      (LEFT, when_complete (p.input == h.consumed && p.output == h.length))
      ∷ (BALANCE, when_complete (bytes_eq (digest lanes (reads parts)) (digest lanes (writes (image h.version elf) parts))))
      ∷ (TRAILING, length bytes == 0)
      ∷ []

  -- the parts of the file, or the first broken check
  unfoldable pub read_file : List ℕ → Result Parts Refusal
  read_file file = do
    let h = header_of file
    after_header ← unless_broken 0 0 (header_checks file) (drop at.HEADER_BYTES file)
    let output = take h.length after_header
    shards ← read_shards h.shards h output 0 (first_place h) (drop h.length after_header)
    after_count ← unless_broken h.shards 0 ((SHORT, nat_le at.COUNT_BYTES (length shards.left)) ∷ []) (drop at.COUNT_BYTES shards.left)
    let count = u32_at shards.left 0
    entries ← read_entries count h 0 None after_count
    let parts : Parts = record { header = h; output = output; shards = shards.part; table = entries.0 }
    unless_broken h.shards count (end_checks h parts shards.place entries.1) parts
