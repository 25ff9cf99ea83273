-- Rows one after another: their accesses, and the bytes that begin with them.
use Rattle.std.proofs.Common.{◌≡◌, ℕ, zero, suc, ◌+◌, ◌<◌, List, [], ◌∷◌, ◌++◌, length, map, take, drop, Some, slice_get, sym, ap, subst, ◌∙◌, append_assoc, append-nil, add-zero, arith}
use Rattle.std.specs.List.{flat_map, AllByRecursion}
use Rattle.std.proofs.lemmas.List.{drop_at}
use Rattle.rv_spec.specs.Trace.{Row}
use Rattle.rv_spec.specs.Record.{row_bytes, row_length}
use Rattle.rv_spec.specs.Grammar.{RowFits}
use Rattle.rv_row.proofs.Lemmas.{length-row_bytes}
use Rattle.rv_text.proofs.Lemmas.{at-place}
use Rattle.rv_query.specs.Accesses.{Numbered, numbered}
use Rattle.rv_query.specs.Following.{GoPast, BehindRows, BeginWithRow}
use Rattle.rv_query.specs.declared.trail.Trail.{Trail}
use Rattle.rv_query.proofs.Trails.{past-both}

-- the accesses of a row of a step
abbrev pub of_row : ℕ → Row → List Numbered
of_row k r = map (λ a. record { step = k; access = a }) r.accesses

pub numbered-append : (k : ℕ) (xs ys : List Row) → numbered k (xs ++ ys) ≡ numbered k xs ++ numbered (k + length xs) ys
numbered-append k [] ys = ap (λ n. numbered n ys) (sym (add-zero k))
numbered-append k (r ∷ rs) ys =
    let next : k + 1 + length rs ≡ k + suc (length rs) = omega arith in
    ap (λ l. of_row k r ++ l) (numbered-append (k + 1) rs ys ∙ ap (λ n. numbered (k + 1) rs ++ numbered n ys) next)
    ∙ sym (append_assoc (of_row k r) (numbered (k + 1) rs) (numbered (k + suc (length rs)) ys))

-- past one row more
pub past-row : (first s step k n : ℕ) (rs : List Row) (tail rest : List ℕ) (row : Row) (ts us vs : List Trail) → AllByRecursion RowFits rs → k < length rs → rest ≡ flat_map row_bytes (drop k rs) ++ tail
    → GoPast first s ts us (numbered step (take k rs))
    → ((x : Row) (more : List ℕ) → RowFits x → rest ≡ row_bytes x ++ more → (row ≡ x) × (n ≡ row_length x))
    → GoPast first s us vs (of_row (step + k) row)
    → (drop n rest ≡ flat_map row_bytes (drop (k + 1) rs) ++ tail) × GoPast first s ts vs (numbered step (take (k + 1) rs))
past-row first s step k n rs tail rest row ts us vs fit lt is before only here =
    let at = at-place RowFits rs k lt fit in
    let x : Row = at.0 in
    let more : List ℕ = flat_map row_bytes at.1 ++ tail in
    let begins : rest ≡ row_bytes x ++ more = is ∙ ap (λ l. flat_map row_bytes l ++ tail) at.2.from ∙ append_assoc (row_bytes x) (flat_map row_bytes at.1) tail in
    let known : (row ≡ x) × (n ≡ row_length x) = only x more at.2.holds begins in
    let joined : numbered step (take (k + 1) rs) ≡ numbered step (take k rs) ++ of_row (step + k) x =
    ap (numbered step) at.2.front ∙ numbered-append step (take k rs) (x ∷ [])
    ∙ ap (λ m. numbered step (take k rs) ++ (of_row (step + m) x ++ [])) at.2.count
    ∙ ap (λ l. numbered step (take k rs) ++ l) (append-nil (of_row (step + k) x)) in (
      ap (λ (l : List ℕ). drop n l) begins ∙ drop_at (row_bytes x) more n (length-row_bytes x ∙ sym known.1) ∙ ap (λ l. flat_map row_bytes l ++ tail) (sym at.2.behind),
      subst (GoPast first s ts vs) (sym joined) (past-both first s ts us vs (numbered step (take k rs)) (of_row (step + k) x) before (subst (λ r. GoPast first s us vs (of_row (step + k) r)) known.0 here)),
    )

-- what stands at the front of a rest of a list is the element at its place
pub place-found : {A : Type 0} (xs : List A) (k : ℕ) (x : A) (ys : List A) → drop k xs ≡ x ∷ ys → slice_get xs k ≡ Some x
place-found [] zero x ys e = absurd cc
place-found [] (suc k) x ys e = absurd cc
place-found (y ∷ xs) zero x ys e = let same : y ≡ x = cc in ap Some same
place-found (y ∷ xs) (suc k) x ys e = place-found xs k x ys e

-- bytes behind some rows, but not all, begin with the next one
pub next-begins : (rs : List Row) (k : ℕ) (bytes : List ℕ) → k < length rs → BehindRows rs k bytes → BeginWithRow rs k bytes
next-begins rs k bytes lt b =
    let at = at-place RowFits rs k lt b.fit in
    record {
      row = at.0;
      rest = flat_map row_bytes at.1 ++ b.rest;
      at = place-found rs k at.0 at.1 at.2.from;
      fits = at.2.holds;
      are = b.are ∙ ap (λ l. flat_map row_bytes l ++ b.rest) at.2.from ∙ append_assoc (row_bytes at.0) (flat_map row_bytes at.1) b.rest;
    }
