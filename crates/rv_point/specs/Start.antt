-- What is known before a shard is replayed, and what its replay gives (this project's own).
use Rattle.std.specs.Prelude.{◌≡◌, ◌<◌, ℕ, zero, suc, ◌+◌, ◌*◌, List, ◌++◌, map, Option, Some, None}
use Rattle.std.specs.List.{flat_map, range_with_len}
use Rattle.std.specs.Int.{div_ceil, IsInRange}
use Rattle.rv_base.specs.declared.limits.TheConstants.{SHARD_SIZE_LIMIT, SHARDS_LIMIT}
use Rattle.rv_base.specs.declared.record.End.{End}
use Rattle.rv_base.specs.declared.record.Place.{Place}
use Rattle.rv_base.specs.declared.record.Refusal.{Refusal}
use Rattle.rv_base.specs.declared.record.TableEntry.{TableEntry}
use Rattle.rv_point.specs.declared.start.ShardStart.{ShardStart}
use Rattle.rv_spec.specs.Elf.{Image, image}
use Rattle.rv_spec.specs.Run.{run, end_at, GoesOn, EndsIn}
use Rattle.rv_spec.specs.Cells.{value, time_of}
use Rattle.rv_spec.specs.Trace.{Row, history, last_use, rising, rows, table}
use Rattle.rv_spec.specs.Digest.{Lanes}
use Rattle.rv_spec.specs.Record.{place_at, shard_rows, shard_of, shard, shard_bytes, header, header_bytes, table_bytes, record_file}

-- how many of n steps from step k on the run takes, the ending one counted
abbrev pub one_more : Option End → ℕ → ℕ
one_more None n = n + 1
one_more (Some e) n = 1

unfoldable pub steps_from : Image → List ℕ → ℕ → ℕ → ℕ
steps_from i input k zero = 0
steps_from i input k (suc n) = one_more (end_at i input k) (steps_from i input (k + 1) n)

-- a run has shard j where no step of the shards before it ends it
abbrev pub HasShard : Image → List ℕ → ℕ → ℕ → Type 0
HasShard i input size j = GoesOn i input (j * size)

-- the cells that some rows use, rising
abbrev pub cells_of : List Row → List ℕ
cells_of rs = rising (flat_map (λ r. map (λ a. a.cell) r.accesses) rs)

-- a cell before step number k
abbrev pub cell_at : Image → List ℕ → ℕ → ℕ → TableEntry
cell_at i input k c = record { cell = c; value = value (run i input k) c; time = last_use (history i input k) c (time_of k 0) }

-- shard j of a run, which is meant only where the run goes on for all earlier shards
abbrev pub shard_start : Image → List ℕ → ℕ → ℕ → ShardStart
shard_start i input size j =
    let k = j * size in
    let n = steps_from i input k size in
    record {
      index = j;
      rows = n;
      step = k;
      place = place_at i input k;
      cells = map (cell_at i input k) (cells_of (rows i input k n));
    }

-- What the replay of a shard gives: its bytes in the record, its digests and the place after it.
pub record Piece : Type 0 where
  pub index : ℕ
  pub bytes : List ℕ
  pub reads : List ℕ
  pub writes : List ℕ
  pub place : Place
  pub fault : Option Refusal

abbrev pub piece : Lanes → Image → List ℕ → ℕ → ℕ → Piece
piece lanes i input size j =
    let k = j * size in
    let n = steps_from i input k size in
    let s = shard_of lanes i input j k n in
    record { index = j; bytes = shard_bytes s; reads = s.reads; writes = s.writes; place = place_at i input (k + n); fault = None }

-- The condition under which a shard may be replayed: it is the start of some shard of the run, at some shard size.
abbrev pub IsStart : Image → List ℕ → ShardStart → Type 0
IsStart i input s = (size : ℕ) × (j : ℕ) × IsInRange 1 SHARD_SIZE_LIMIT size × (j < SHARDS_LIMIT) × HasShard i input size j × (s ≡ shard_start i input size j)

-- The law of pieces: in a run that ends, each shard of its record is there, and what its replay gives is that shard's bytes and digests, and the place after it.
pub record IsShardOfRecord (lanes : Lanes) (i : Image) (input : List ℕ) (size n j : ℕ) : Type 0 where
  pub has : HasShard i input size j
  pub rows : steps_from i input (j * size) size ≡ shard_rows size n j
  pub bytes : (piece lanes i input size j).bytes ≡ shard_bytes (shard lanes i input size n j)
  pub reads : (piece lanes i input size j).reads ≡ (shard lanes i input size n j).reads
  pub writes : (piece lanes i input size j).writes ≡ (shard lanes i input size n j).writes
  pub place : (piece lanes i input size j).place ≡ place_at i input (j * size + shard_rows size n j)

abbrev pub PiecesAreShards : Type 0
PiecesAreShards = (lanes : Lanes) (i : Image) (input : List ℕ) (size n j : ℕ) (e : End) → EndsIn i input n e → IsInRange 1 SHARD_SIZE_LIMIT size → j < div_ceil n size
    → IsShardOfRecord lanes i input size n j

-- And the record of the run is its header, its output, the bytes of the pieces in order, and its table.
abbrev pub RecordIsPieces : Type 0
RecordIsPieces = (lanes : Lanes) (v : ℕ) (elf input : List ℕ) (size n : ℕ) (e : End) → let i = image v elf in EndsIn i input n e → IsInRange 1 SHARD_SIZE_LIMIT size
    → record_file lanes v elf input size n e ≡ header_bytes (header v elf input size n e) ++ (run i input n).output ++ flat_map (λ j. (piece lanes i input size j).bytes) (range_with_len 0 (div_ceil n size)) ++ table_bytes (table i input n)
