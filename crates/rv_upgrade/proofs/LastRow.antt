-- The last row of a file.
use Rattle.std.proofs.Common.{◌≡◌, ℕ, suc, ◌+◌, ◌-◌, ◌*◌, ◌<◌, ◌≤◌, List, [], ◌∷◌, ◌++◌, length, take, drop, Some, option_map, unwrap_or, slice_get, refl, sym, ap, subst, ◌∙◌, inl, inr, append_assoc, append-nil, length-append, arith}
use Rattle.std.specs.List.{flat_map, AllByRecursion}
use Rattle.std.proofs.lemmas.List.{take_all, drop_at}
use Rattle.std.proofs.lemmas.Bool.{cases_lt}
use Rattle.std.proofs.lemmas.Grind.{flat_map-append}
use Rattle.rv_spec.specs.Trace.{Row}
use Rattle.rv_spec.specs.Record.{Shard, Parts, all_rows, row_bytes, row_length, table_bytes, shard_bytes}
use Rattle.rv_spec.specs.Grammar.{RowFits, PartsFit}
use Rattle.rv_row.proofs.Lemmas.{length-row_bytes}
use Rattle.rv_text.proofs.Lemmas.{rows_in, sized, next-shard, behind, digests, at-place}
use Rattle.rv_upgrade.specs.Upgrade.{first_old, last_word}
use Rattle.rv_upgrade.specs.LastShard.{BeginWithLast}

at-end : {A : Type 0} (xs : List A) (x : A) → slice_get (xs ++ (x ∷ [])) (length (xs ++ (x ∷ [])) - 1) ≡ Some x
at-end [] x = refl
at-end (y ∷ xs) x =
    let index : length ((y ∷ xs) ++ (x ∷ [])) - 1 ≡ suc (length (xs ++ (x ∷ [])) - 1) = omega (arith, length-append xs (x ∷ [])) in
    ap (slice_get ((y ∷ xs) ++ (x ∷ []))) index ∙ at-end xs x

-- the word of a file whose last row is known
pub last-word : (p : Parts) (xs : List Row) (r : Row) → all_rows p ≡ xs ++ (r ∷ []) → last_word p ≡ first_old r
unfolding last_word
last-word p xs r is =
    ap (λ (l : List Row). unwrap_or (option_map first_old (slice_get l (length l - 1))) 0) is
    ∙ ap (λ o. unwrap_or (option_map first_old o) 0) (at-end xs r)

-- there is a shard
pub some-shard : (p : Parts) → PartsFit p → 0 < p.header.shards
some-shard p fit = elim (cases_lt 0 p.header.shards) [
  | inl some ↦ some
  | inr none ↦ (
      let is : p.header.shards ≡ 0 = omega (arith, none) in
      let empty : p.header.steps ≤ 0 * p.header.size = subst (λ n. p.header.steps ≤ n * p.header.size) is (sized p fit).most in
      absurd (omega (arith, empty, fit.header.steps.0))
      )
]

-- the bytes behind a row
pub row-behind : (k n : ℕ) (rs : List Row) (tail rest : List ℕ) → AllByRecursion RowFits rs → k < length rs → rest ≡ flat_map row_bytes (drop k rs) ++ tail
    → ((x : Row) (more : List ℕ) → RowFits x → rest ≡ row_bytes x ++ more → n ≡ row_length x)
    → drop n rest ≡ flat_map row_bytes (drop (k + 1) rs) ++ tail
row-behind k n rs tail rest fit lt is only =
    let at = at-place RowFits rs k lt fit in
    let x : Row = at.0 in
    let more : List ℕ = flat_map row_bytes at.1 ++ tail in
    let begins : rest ≡ row_bytes x ++ more = is ∙ ap (λ l. flat_map row_bytes l ++ tail) at.2.from ∙ append_assoc (row_bytes x) (flat_map row_bytes at.1) tail in
    ap (λ (l : List ℕ). drop n l) begins ∙ drop_at (row_bytes x) more n (length-row_bytes x ∙ sym (only x more at.2.holds begins)) ∙ ap (λ l. flat_map row_bytes l ++ tail) (sym at.2.behind)

-- behind all shards but the last stands the last
pub begin-with-last : (p : Parts) (bytes : List ℕ) → PartsFit p → bytes ≡ flat_map shard_bytes (drop (p.header.shards - 1) p.shards) ++ table_bytes p.table → BeginWithLast p bytes
begin-with-last p bytes fit left =
    let k : ℕ = p.header.shards - 1 in
    let some : 0 < p.header.shards = some-shard p fit in
    let at = next-shard p k bytes fit (omega (arith, some, fit.count)) left in
    let starts : k * p.header.size < p.header.steps = (sized p fit).less k (omega (arith, some)) in
    record {
      before = take k p.shards;
      shard = at.0;
      rest = behind p k;
      some = some;
      all = sym (take_all (k + 1) p.shards (omega (arith, some, fit.count))) ∙ at.1.front;
      fits = at.1.fits;
      rows = omega (arith, starts, fit.header.size.0);
      are = at.1.begins;
      head = omega (arith, at.1.room);
    }

-- of the last shard the last row is the file's
pub of-last-shard : (p : Parts) (bytes : List ℕ) (b : BeginWithLast p bytes) (i : ℕ) → i + 1 ≡ length b.shard.rows
    → (r : Row) × (more : List ℕ) × RowFits r × (flat_map row_bytes (drop i b.shard.rows) ++ (digests b.shard ++ b.rest) ≡ row_bytes r ++ more) × (last_word p ≡ first_old r)
of-last-shard p bytes b i last =
    let rs : List Row = b.shard.rows in
    let tail : List ℕ = digests b.shard ++ b.rest in
    let at = at-place RowFits rs i (omega (arith, last)) b.fits.each in
    let r : Row = at.0 in
    let whole : rs ≡ take i rs ++ (r ∷ []) = sym (take_all (i + 1) rs (omega (arith, last))) ∙ at.2.front in
    let all : all_rows p ≡ (rows_in b.before ++ take i rs) ++ (r ∷ []) =
    ap rows_in b.all ∙ flat_map-append (λ (s : Shard). s.rows) b.before (b.shard ∷ []) ∙ ap (λ l. rows_in b.before ++ l) (append-nil rs ∙ whole)
    ∙ sym (append_assoc (rows_in b.before) (take i rs) (r ∷ [])) in (
      r,
      flat_map row_bytes at.1 ++ tail,
      at.2.holds,
      ap (λ l. flat_map row_bytes l ++ tail) at.2.from ∙ append_assoc (row_bytes r) (flat_map row_bytes at.1) tail,
      last-word p (rows_in b.before ++ take i rs) r all,
    )
