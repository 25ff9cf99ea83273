-- What parts spell are bytes.
use Rattle.std.proofs.Common.{ℕ, ◌+◌, ◌^◌, ◌<◌, List, [], ◌∷◌, ◌++◌, length, arith}
use Rattle.std.specs.List.{flat_map, AllByRecursion}
use Rattle.std.specs.Int.{w32, w64, to_le_bytes}
use Rattle.rv_base.specs.declared.record.Access.{Access}
use Rattle.rv_base.specs.declared.record.Header.{Header}
use Rattle.rv_base.specs.declared.record.ShardHead.{ShardHead}
use Rattle.rv_base.specs.declared.record.TableEntry.{TableEntry}
use Rattle.rv_spec.specs.Words.{AreBytes}
use Rattle.rv_spec.specs.Digest.{set_digest_bytes}
use Rattle.rv_spec.specs.Trace.{Row}
use Rattle.rv_spec.specs.Record.{Shard, Parts, magic, header_bytes, head_bytes, access_bytes, row_bytes, shard_bytes, entry_bytes, table_bytes, file_bytes}
use Rattle.rv_spec.specs.Grammar.{HeaderFits, AccessFits, RowFits, ShardFits, ShardsFit, PartsFit}
use Rattle.rv_rules.proofs.Lemmas.{append-bytes}

-- A list of bytes, as a type that names its list.
record Bytes (xs : List ℕ) : Type 0 where
  pub are : AreBytes xs

none : Bytes []
none = record { are = tt }

byte : (x : ℕ) {xs : List ℕ} → x < 2 ^ 8 → Bytes xs → Bytes (x ∷ xs)
byte x fits rest = record { are = (fits, rest.are) }

join : {xs ys : List ℕ} → Bytes xs → Bytes ys → Bytes (xs ++ ys)
join {xs} {ys} front rest = record { are = append-bytes xs ys front.are rest.are }

number32 : (n : ℕ) → Bytes (to_le_bytes w32 n)
number32 n = record { are = (omega arith, (omega arith, (omega arith, (omega arith, tt)))) }

number64 : (n : ℕ) → Bytes (to_le_bytes w64 n)
number64 n = record { are = (omega arith, (omega arith, (omega arith, (omega arith, (omega arith, (omega arith, (omega arith, (omega arith, tt)))))))) }

all : {A : Type 0} (f : A → List ℕ) → ((x : A) → Bytes (f x)) → (xs : List A) → Bytes (flat_map f xs)
all f each [] = none
all f each (x ∷ xs) = join (each x) (all f each xs)

-- ---- rows

access : (a : Access) → AccessFits a → Bytes (access_bytes a)
unfolding access_bytes
access a fits = byte a.slot fits.slot (join (number32 a.cell) (join (number32 a.old) (join (number64 a.prev) (number32 a.new))))

accesses : (xs : List Access) → AllByRecursion AccessFits xs → Bytes (flat_map access_bytes xs)
accesses [] fits = none
accesses (a ∷ xs) fits = join (access a fits.0) (accesses xs fits.1)

row : (r : Row) → RowFits r → Bytes (row_bytes r)
unfolding row_bytes
row r fits = join (number32 r.pc) (join (number32 r.next) (byte (length r.accesses) (omega (arith, fits.count.1)) (accesses r.accesses fits.accesses)))

rows : (rs : List Row) → AllByRecursion RowFits rs → Bytes (flat_map row_bytes rs)
rows [] fits = none
rows (r ∷ rs) fits = join (row r fits.0) (rows rs fits.1)

-- ---- shards

digest : (sums : List ℕ) → Bytes (set_digest_bytes sums)
digest sums = all (to_le_bytes w64) number64 sums

head : (h : ShardHead) → Bytes (head_bytes h)
unfolding head_bytes
head h = join (number32 h.index) (join (number32 h.rows) (join (number32 h.pc) (join (number64 h.input) (join (number64 h.output) (number32 h.bytes)))))

shard : (h : Header) (i : ℕ) (s : Shard) → ShardFits h i s → Bytes (shard_bytes s)
unfolding shard_bytes
shard h i s fits = join (join (join (head s.head) (rows s.rows fits.each)) (digest s.reads)) (digest s.writes)

shards : (h : Header) (i : ℕ) (ss : List Shard) → ShardsFit h i ss → Bytes (flat_map shard_bytes ss)
shards h i [] fits = none
shards h i (s ∷ ss) fits = join (shard h i s fits.0) (shards h (i + 1) ss fits.1)

-- ---- the table, the header, the whole

entry : (t : TableEntry) → Bytes (entry_bytes t)
unfolding entry_bytes
entry t = join (number32 t.cell) (join (number32 t.value) (number64 t.time))

table : (ts : List TableEntry) → Bytes (table_bytes ts)
unfolding table_bytes
table ts = join (number32 (length ts)) (all entry_bytes entry ts)

version : (h : Header) → HeaderFits h → Bytes (magic h.version)
version h fit = record { are = (omega arith, (omega arith, (omega arith, (omega arith, (omega arith, (omega arith, (omega arith, (omega (arith, fit.version.1), tt)))))))) }

header : (h : Header) → HeaderFits h → Bytes (header_bytes h)
unfolding header_bytes
header h fit =
    let elf : Bytes h.elf = record { are = fit.elf.1 } in
    let input : Bytes h.input = record { are = fit.input.1 } in
    let end : Bytes (h.end.kind ∷ to_le_bytes w32 h.end.code) = byte h.end.kind (omega (arith, fit.kind)) (number32 h.end.code) in
    join (join (join (join (join (join (join (join (version h fit) elf) input) (number32 h.size)) (number64 h.steps)) (number32 h.shards)) end) (number64 h.consumed)) (number64 h.length)

pub spelled-bytes : (p : Parts) → PartsFit p → AreBytes (file_bytes p)
unfolding file_bytes
spelled-bytes p fit =
    let output : Bytes p.output = record { are = fit.output.1 } in
    (join (join (join (header p.header fit.header) output) (shards p.header 0 p.shards fit.shards)) (table p.table)).are
