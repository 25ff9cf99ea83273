-- The record file of a run (this project's own): its parts, their bytes, and the record that is due. The hashes are SHA-512 of FIPS 180-4.
use Rattle.std.specs.Prelude.{ℕ, ◌+◌, ◌-◌, ◌*◌, min, List, [], ◌∷◌, ◌++◌, length, map}
use Rattle.std.specs.List.{flat_map, range_with_len}
use Rattle.std.specs.Int.{w32, w64, to_le_bytes, div_ceil}
use Rattle.sha2.specs.Sha512.{sha512}
use Rattle.rv_base.specs.declared.layout.TheConstants.{ROW_BYTES, ACCESS_BYTES}
use Rattle.rv_base.specs.declared.record.Access.{Access}
use Rattle.rv_base.specs.declared.record.End.{End}
use Rattle.rv_base.specs.declared.record.Header.{Header}
use Rattle.rv_base.specs.declared.record.Place.{Place}
use Rattle.rv_base.specs.declared.record.ShardHead.{ShardHead}
use Rattle.rv_base.specs.declared.record.TableEntry.{TableEntry}
use Rattle.rv_base.specs.declared.record.Tuple.{Tuple}
use Rattle.rv_spec.specs.Elf.{Image, image}
use Rattle.rv_spec.specs.Run.{run}
use Rattle.rv_spec.specs.Cells.{initial_value}
use Rattle.rv_spec.specs.Trace.{Row, rows, table}
use Rattle.rv_spec.specs.Tuples.{Event, events, tuple_read, tuple_written, all_read, all_written}
use Rattle.rv_spec.specs.Digest.{Lanes, digest, set_digest_bytes}

-- A shard: its head, its rows, and the digests of the tuples that these read and write.
pub record Shard : Type 0 where
  pub head : ShardHead
  pub rows : List Row
  pub reads : List ℕ
  pub writes : List ℕ

-- The parts of a record file.
pub record Parts : Type 0 where
  pub header : Header
  pub output : List ℕ
  pub shards : List Shard
  pub table : List TableEntry

-- ---- the bytes of each part

-- RV32REC and the version's digit
abbrev pub magic : ℕ → List ℕ
magic version = 0x52 ∷ 0x56 ∷ 0x33 ∷ 0x32 ∷ 0x52 ∷ 0x45 ∷ 0x43 ∷ (0x30 + version) ∷ []

unfoldable pub header_bytes : Header → List ℕ
header_bytes h =
    magic h.version ++ h.elf ++ h.input ++ to_le_bytes w32 h.size ++ to_le_bytes w64 h.steps ++ to_le_bytes w32 h.shards
    ++ h.end.kind ∷ to_le_bytes w32 h.end.code ++ to_le_bytes w64 h.consumed ++ to_le_bytes w64 h.length

unfoldable pub head_bytes : ShardHead → List ℕ
head_bytes h =
    to_le_bytes w32 h.index ++ to_le_bytes w32 h.rows ++ to_le_bytes w32 h.pc
    ++ to_le_bytes w64 h.input ++ to_le_bytes w64 h.output ++ to_le_bytes w32 h.bytes

unfoldable pub access_bytes : Access → List ℕ
access_bytes a = a.slot ∷ to_le_bytes w32 a.cell ++ to_le_bytes w32 a.old ++ to_le_bytes w64 a.prev ++ to_le_bytes w32 a.new

unfoldable pub row_bytes : Row → List ℕ
row_bytes r = to_le_bytes w32 r.pc ++ to_le_bytes w32 r.next ++ length r.accesses ∷ flat_map access_bytes r.accesses

unfoldable pub shard_bytes : Shard → List ℕ
shard_bytes s = head_bytes s.head ++ flat_map row_bytes s.rows ++ set_digest_bytes s.reads ++ set_digest_bytes s.writes

unfoldable pub entry_bytes : TableEntry → List ℕ
entry_bytes e = to_le_bytes w32 e.cell ++ to_le_bytes w32 e.value ++ to_le_bytes w64 e.time

unfoldable pub table_bytes : List TableEntry → List ℕ
table_bytes es = to_le_bytes w32 (length es) ++ flat_map entry_bytes es

-- the parts' bytes one after another
unfoldable pub file_bytes : Parts → List ℕ
file_bytes p = header_bytes p.header ++ p.output ++ flat_map shard_bytes p.shards ++ table_bytes p.table

-- ---- the two lists of tuples of a file

abbrev pub all_rows : Parts → List Row
all_rows p = flat_map (λ s. s.rows) p.shards

abbrev pub all_events : Parts → List Event
all_events p = events 0 (all_rows p)

unfoldable pub reads : Parts → List Tuple
reads p = all_read (all_events p) p.table

unfoldable pub writes : Image → Parts → List Tuple
writes i p = all_written (initial_value i) (all_events p) p.table

-- ---- the record of a run

-- shard i of a run of n steps holds this many rows
abbrev pub shard_rows : ℕ → ℕ → ℕ → ℕ
shard_rows size n i = min size (n - i * size)

-- the place before step number k
abbrev pub place_at : Image → List ℕ → ℕ → Place
place_at i input k =
    let s = run i input k in
    record { pc = s.pc; input = s.position; output = length s.output }

abbrev pub row_length : Row → ℕ
row_length r = ROW_BYTES + ACCESS_BYTES * length r.accesses

abbrev pub rows_length : List Row → ℕ
rows_length [] = 0
rows_length (r ∷ rs) = row_length r + rows_length rs

-- rows from step k on, as shard number j
abbrev pub shard_of : Lanes → Image → List ℕ → ℕ → ℕ → ℕ → Shard
shard_of lanes i input j k n =
    let rs = rows i input k n in
    let p = place_at i input k in
    record {
      head = record { index = j; rows = n; pc = p.pc; input = p.input; output = p.output; bytes = rows_length rs };
      rows = rs;
      reads = digest lanes (map tuple_read (events k rs));
      writes = digest lanes (map tuple_written (events k rs));
    }

-- shard j of the record, at a shard size, of a run of n steps
abbrev pub shard : Lanes → Image → List ℕ → ℕ → ℕ → ℕ → Shard
shard lanes i input size n j = shard_of lanes i input j (j * size) (shard_rows size n j)

abbrev pub header : ℕ → List ℕ → List ℕ → ℕ → ℕ → End → Header
header version elf input size n e =
    let s = run (image version elf) input n in
    record {
      version = version;
      elf = sha512 elf;
      input = sha512 input;
      size = size;
      steps = n;
      shards = div_ceil n size;
      end = e;
      consumed = s.position;
      length = length s.output;
    }

-- the parts of the record of a run that ends in n steps with the end e
abbrev pub record_parts : Lanes → ℕ → List ℕ → List ℕ → ℕ → ℕ → End → Parts
record_parts lanes version elf input size n e =
    let i = image version elf in
    record {
      header = header version elf input size n e;
      output = (run i input n).output;
      shards = map (shard lanes i input size n) (range_with_len 0 (div_ceil n size));
      table = table i input n;
    }

-- the record file
abbrev pub record_file : Lanes → ℕ → List ℕ → List ℕ → ℕ → ℕ → End → List ℕ
record_file lanes version elf input size n e = file_bytes (record_parts lanes version elf input size n e)
