-- Bytes that begin with parts of a file, part by part.
use Rattle.std.proofs.Common.{◌≡◌, ℕ, ◌+◌, ◌*◌, ◌<◌, List, [], ◌∷◌, ◌++◌, length, drop, refl, sym, ap, subst, ◌∙◌, append_assoc, arith}
use Rattle.std.specs.Int.{w64, to_le_bytes}
use Rattle.std.specs.List.{flat_map, AllByRecursion}
use Rattle.std.proofs.lemmas.List.{length-append, drop_at, drop-drop}
use Rattle.rv_base.specs.declared.record.Header.{Header}
use Rattle.rv_base.specs.declared.record.ShardHead.{ShardHead}
use Rattle.rv_spec.specs.Digest.{set_digest_bytes}
use Rattle.rv_spec.specs.Trace.{Row}
use Rattle.rv_spec.specs.Record.{Shard, Parts, header_bytes, head_bytes, row_bytes, shard_bytes, table_bytes, file_bytes, row_length}
use Rattle.rv_spec.specs.Grammar.{RowFits, HeaderFits, ShardFits, ShardsFit, Spells}
use Rattle.rv_row.proofs.Lemmas.{length-row_bytes}
use Rattle.rv_settle.specs.Spelled.{SpellRows, SpellShard, SpellShards}
use Rattle.rv_row.specs.RowReading.{IsRow}
use Rattle.rv_row.specs.declared.rows.Row.{Row as RowData}
use Rattle.rv_row.specs.declared.rows.RowRead.{RowRead}
use Rattle.rv_row.specs.declared.rows.RowRead.TheVariants as read
use Rattle.rv_settle.proofs.Places.{IsAt, place-of, shard-at}

-- ---- rows

-- The bytes begin with a row, and the rows behind it.
pub record BeginsWithRow (rs : List Row) (k : ℕ) (bytes tail : List ℕ) (r : Row) : Type 0 where
  pub at : IsAt rs k r
  pub fits : RowFits r
  pub is : bytes ≡ row_bytes r ++ (flat_map row_bytes (drop (k + 1) rs) ++ tail)

pub next-row : (rs : List Row) (k : ℕ) (bytes tail : List ℕ) → k < length rs → AllByRecursion RowFits rs → bytes ≡ flat_map row_bytes (drop k rs) ++ tail → (r : Row) × BeginsWithRow rs k bytes tail r
next-row rs k bytes tail lt fit is =
    let p = place-of RowFits rs k lt fit in
    let r = p.0 in (
      r,
      record {
        at = p.1;
        fits = p.2;
        is = is ∙ ap (λ (qs : List Row). flat_map row_bytes qs ++ tail) p.1.behind ∙ append_assoc (row_bytes r) (flat_map row_bytes (drop (k + 1) rs)) tail;
      },
    )

pub behind-row : (rs : List Row) (k n : ℕ) (bytes tail : List ℕ) (r : Row) → BeginsWithRow rs k bytes tail r → n ≡ row_length r → drop n bytes ≡ flat_map row_bytes (drop (k + 1) rs) ++ tail
behind-row rs k n bytes tail r b size =
    ap (drop n) b.is ∙ drop_at (row_bytes r) (flat_map row_bytes (drop (k + 1) rs) ++ tail) n (length-row_bytes r ∙ sym size)

-- what is no row is not this row
pub no-row : (answer : RowRead) (r : Row) (n : ℕ) → IsRow answer r n → ((x : RowData) (k : ℕ) → answer ≡ read.Row x k → ⊥) → ⊥
no-row (read.Row x k) r n is other = other x k refl
no-row read.Short r n is other = is
no-row read.Shape r n is other = is

-- ---- a shard

length-numbers : (xs : List ℕ) → length (set_digest_bytes xs) ≡ 8 * length xs
length-numbers [] = refl
length-numbers (x ∷ xs) = length-append (to_le_bytes w64 x) (set_digest_bytes xs) ∙ omega (arith, length-numbers xs)

length-head : (h : ShardHead) → length (head_bytes h) ≡ 32
unfolding head_bytes
length-head h = refl

joined : (a b c d rest : List ℕ) → (((a ++ b) ++ c) ++ d) ++ rest ≡ a ++ (b ++ (c ++ (d ++ rest)))
joined a b c d rest = simp append_assoc

abbrev pub digests_and : Shard → List ℕ → List ℕ
digests_and s rest = set_digest_bytes s.reads ++ (set_digest_bytes s.writes ++ rest)

pub behind-head : (h : Header) (i : ℕ) (s : Shard) (bytes rest : List ℕ) → SpellShard h i s bytes rest → SpellRows s.rows (drop 32 bytes) (digests_and s rest)
unfolding shard_bytes
behind-head h i s bytes rest sp =
    let rows = flat_map row_bytes s.rows in
    record {
      fit = sp.fits.each;
      are =
          ap (drop 32) (sp.are ∙ joined (head_bytes s.head) rows (set_digest_bytes s.reads) (set_digest_bytes s.writes) rest)
          ∙ drop_at (head_bytes s.head) (rows ++ digests_and s rest) 32 (length-head s.head);
    }

pub behind-digests : (h : Header) (i : ℕ) (s : Shard) (rest : List ℕ) → ShardFits h i s → drop 256 (digests_and s rest) ≡ rest
behind-digests h i s rest fits =
    let writes = set_digest_bytes s.writes ++ rest in
    let reads_size : length (set_digest_bytes s.reads) ≡ 128 = length-numbers s.reads ∙ ap (λ n. 8 * n) fits.reads.0 in
    let writes_size : length (set_digest_bytes s.writes) ≡ 128 = length-numbers s.writes ∙ ap (λ n. 8 * n) fits.writes.0 in
    sym (drop-drop 128 128 (digests_and s rest))
    ∙ ap (drop 128) (drop_at (set_digest_bytes s.reads) writes 128 reads_size)
    ∙ drop_at (set_digest_bytes s.writes) rest 128 writes_size

-- ---- shards

-- The bytes begin with a shard, and the shards behind it.
pub record BeginsWithShard (h : Header) (ss : List Shard) (k : ℕ) (bytes tail : List ℕ) (s : Shard) : Type 0 where
  pub at : IsAt ss k s
  pub spelled : SpellShard h k s bytes (flat_map shard_bytes (drop (k + 1) ss) ++ tail)

pub next-shard : (h : Header) (ss : List Shard) (k : ℕ) (file bytes tail : List ℕ) → SpellShards h ss file tail → k < h.shards → bytes ≡ flat_map shard_bytes (drop k ss) ++ tail → (s : Shard) × BeginsWithShard h ss k bytes tail s
next-shard h ss k file bytes tail sp lt is =
    let p = shard-at h 0 ss k (omega (arith, lt, sp.count)) sp.fit in
    let s = p.0 in
    let e : 0 + k ≡ k = omega arith in (
      s,
      record {
        at = p.1;
        spelled = record {
          fits = subst (λ n. ShardFits h n s) e p.2;
          are = is ∙ ap (λ (qs : List Shard). flat_map shard_bytes qs ++ tail) p.1.behind ∙ append_assoc (shard_bytes s) (flat_map shard_bytes (drop (k + 1) ss)) tail;
        };
      },
    )

-- ---- the file

length-header : (h : Header) → HeaderFits h → length (header_bytes h) ≡ 173
unfolding header_bytes
length-header h fits = simp length-append (omega (arith, fits.elf.0, fits.input.0))

four : (a b c d : List ℕ) → ((a ++ b) ++ c) ++ d ≡ (a ++ b) ++ (c ++ d)
four a b c d = append_assoc (a ++ b) c d

pub behind-output : (p : Parts) (file : List ℕ) → Spells p file → SpellShards p.header p.shards (drop (173 + p.header.length) file) (table_bytes p.table)
unfolding file_bytes
behind-output p file spells =
    let front = header_bytes p.header ++ p.output in
    let rest = flat_map shard_bytes p.shards ++ table_bytes p.table in
    let long : length front ≡ 173 + p.header.length = length-append (header_bytes p.header) p.output ∙ omega (arith, length-header p.header spells.fit.header, spells.fit.output.0) in
    record {
      count = spells.fit.count;
      fit = spells.fit.shards;
      are = ap (drop (173 + p.header.length)) (spells.is ∙ four (header_bytes p.header) p.output (flat_map shard_bytes p.shards) (table_bytes p.table)) ∙ drop_at front rest (173 + p.header.length) long;
    }

-- the same, of a header and bytes that are these
pub from-here : (p : Parts) (h : Header) (file bytes : List ℕ) → Spells p file → h ≡ p.header → bytes ≡ drop (173 + h.length) file → SpellShards h p.shards bytes (table_bytes p.table)
from-here p h file bytes spells is from =
    let at = behind-output p file spells in
    record {
      count = at.count ∙ ap (λ (k : Header). k.shards) (sym is);
      fit = subst (λ (k : Header). ShardsFit k 0 p.shards) (sym is) at.fit;
      are = from ∙ ap (λ (k : Header). drop (173 + k.length) file) is ∙ at.are;
    }
