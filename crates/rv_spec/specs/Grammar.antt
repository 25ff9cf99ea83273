-- Which parts a record file may spell, and how: its grammar (this project's own).
use Rattle.std.specs.Prelude.{◌≡◌, ℕ, ◌+◌, ◌-◌, ◌<◌, ◌≤◌, ◌^◌, List, [], ◌∷◌, length, map, IsTrue, ⊤, ◌⊎◌}
use Rattle.std.specs.List.{AllByRecursion}
use Rattle.std.specs.Int.{div_ceil, IsInRange}
use Rattle.rv_base.specs.declared.cells.TheConstants.{SLOTS}
use Rattle.rv_base.specs.declared.machine.TheConstants.{EXIT, MISALIGNED_STORE}
use Rattle.rv_base.specs.declared.limits.TheConstants.{OUTPUT_LIMIT, SHARD_SIZE_LIMIT, SHARDS_LIMIT}
use Rattle.rv_base.specs.declared.layout.TheConstants.{HASH_BYTES}
use Rattle.rv_base.specs.declared.record.Access.{Access}
use Rattle.rv_base.specs.declared.record.Header.{Header}
use Rattle.rv_base.specs.declared.record.TableEntry.{TableEntry}
use Rattle.rv_spec.specs.Cells.{is_cell}
use Rattle.rv_spec.specs.Trace.{Row}
use Rattle.rv_spec.specs.Record.{Shard, Parts, rows_length, shard_rows, file_bytes}

-- n numbers below 2 ^ bits
abbrev pub AreNumbers : ℕ → ℕ → List ℕ → Type 0
AreNumbers n bits xs = (length xs ≡ n) × AllByRecursion (λ x. x < 2 ^ bits) xs

pub record HeaderFits (h : Header) : Type 0 where
  pub version : IsInRange 1 2 h.version
  pub elf : AreNumbers HASH_BYTES 8 h.elf
  pub input : AreNumbers HASH_BYTES 8 h.input
  pub size : IsInRange 1 SHARD_SIZE_LIMIT h.size
  pub steps : IsInRange 1 (2 ^ 64 - 1) h.steps
  pub shards : h.shards ≡ div_ceil h.steps h.size
  pub shards_within : h.shards ≤ SHARDS_LIMIT
  pub kind : h.end.kind ≤ MISALIGNED_STORE
  pub code : h.end.code < 2 ^ 32
  pub code_of_exit : (h.end.kind ≡ EXIT) ⊎ (h.end.code ≡ 0)
  pub consumed : h.consumed < 2 ^ 64
  pub length : h.length ≤ OUTPUT_LIMIT

pub record AccessFits (a : Access) : Type 0 where
  pub slot : a.slot < 2 ^ 8
  pub cell : a.cell < 2 ^ 32
  pub old : a.old < 2 ^ 32
  pub prev : a.prev < 2 ^ 64
  pub new : a.new < 2 ^ 32

-- a row has at least one access, and at most one in each slot
pub record RowFits (r : Row) : Type 0 where
  pub pc : r.pc < 2 ^ 32
  pub next : r.next < 2 ^ 32
  pub count : IsInRange 1 SLOTS (length r.accesses)
  pub accesses : AllByRecursion AccessFits r.accesses

-- shard i has its index, its number of rows, and as many bytes of rows as its head states
pub record ShardFits (h : Header) (i : ℕ) (s : Shard) : Type 0 where
  pub index : s.head.index ≡ i
  pub rows : s.head.rows ≡ shard_rows h.size h.steps i
  pub count : length s.rows ≡ s.head.rows
  pub bytes : s.head.bytes ≡ rows_length s.rows
  pub pc : s.head.pc < 2 ^ 32
  pub input : s.head.input < 2 ^ 64
  pub output : s.head.output < 2 ^ 64
  pub each : AllByRecursion RowFits s.rows
  pub reads : AreNumbers 16 64 s.reads
  pub writes : AreNumbers 16 64 s.writes

abbrev pub ShardsFit : Header → ℕ → List Shard → Type 0
ShardsFit h i [] = ⊤
ShardsFit h i (s ∷ ss) = ShardFits h i s × ShardsFit h (i + 1) ss

pub record EntryFits (version : ℕ) (t : TableEntry) : Type 0 where
  pub cell : IsTrue (is_cell version t.cell)
  pub value : t.value < 2 ^ 32
  pub time : IsInRange 1 (2 ^ 64 - 1) t.time

-- each number is less than all that follow
abbrev pub IsRising : List ℕ → Type 0
IsRising [] = ⊤
IsRising (x ∷ xs) = AllByRecursion (λ y. x < y) xs × IsRising xs

-- What has a spelling.
pub record PartsFit (p : Parts) : Type 0 where
  pub header : HeaderFits p.header
  pub output : AreNumbers p.header.length 8 p.output
  pub count : length p.shards ≡ p.header.shards
  pub shards : ShardsFit p.header 0 p.shards
  pub entries : AllByRecursion (EntryFits p.header.version) p.table
  pub rising : IsRising (map (λ t. t.cell) p.table)
  pub table : length p.table < 2 ^ 32

-- The file is the spelling of these parts.
pub record Spells (p : Parts) (file : List ℕ) : Type 0 where
  pub fit : PartsFit p
  pub is : file ≡ file_bytes p
