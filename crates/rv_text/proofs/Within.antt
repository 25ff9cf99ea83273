-- The lines of the rows within a range of steps.
use Rattle.std.proofs.Common.{◌≡◌, ℕ, zero, suc, ◌+◌, ◌-◌, ◌<◌, ◌≤◌, List, [], ◌∷◌, ◌++◌, length, take, drop, refl, sym, ap, ◌∙◌, append_assoc, ⊎_elim, add-zero, arith}
use Rattle.std.specs.List.{AllByRecursion}
use Rattle.std.proofs.Math.Seq.{take-nil, drop-nil}
use Rattle.std.proofs.lemmas.Bool.{cases_lt}
use Rattle.std.proofs.lemmas.Bool.Decides.{nat_tests}
use Rattle.rv_spec.specs.Trace.{Row}
use Rattle.rv_text.specs.Listing.{row_lines, lines_from}
use Rattle.rv_text.specs.Within.{here, lines_within}

pub here-in : (version from until step : ℕ) (r : Row) → from ≤ step → step < until → here version from until step r ≡ row_lines version step r
here-in version from until step r le lt = grind (arith, nat_tests)

pub here-before : (version from until step : ℕ) (r : Row) → step < from → here version from until step r ≡ []
here-before version from until step r lt = grind (arith, nat_tests)

pub here-after : (version from until step : ℕ) (r : Row) → until ≤ step → here version from until step r ≡ []
here-after version from until step r le = grind (arith, nat_tests)

pub within-append : (version from until step : ℕ) (xs ys : List Row)
    → lines_within version from until step (xs ++ ys) ≡ lines_within version from until step xs ++ lines_within version from until (step + length xs) ys
unfolding lines_within
within-append version from until step [] ys = ap (λ k. lines_within version from until k ys) (sym (add-zero step))
within-append version from until step (r ∷ rs) ys =
    let first = here version from until step r in
    let next : step + 1 + length rs ≡ step + suc (length rs) = omega arith in
    ap (λ t. first ++ t) (within-append version from until (step + 1) rs ys)
    ∙ sym (append_assoc first (lines_within version from until (step + 1) rs) (lines_within version from until (step + 1 + length rs) ys))
    ∙ ap (λ k. (first ++ lines_within version from until (step + 1) rs) ++ lines_within version from until k ys) next

-- rows before the range have no lines, nor have those behind it
pub within-before : (version from until step : ℕ) (rs : List Row) → step + length rs ≤ from → lines_within version from until step rs ≡ []
unfolding lines_within
within-before version from until step [] le = refl
within-before version from until step (r ∷ rs) le =
    ap (λ t. t ++ lines_within version from until (step + 1) rs) (here-before version from until step r (omega arith))
    ∙ within-before version from until (step + 1) rs (omega arith)

pub within-after : (version from until step : ℕ) (rs : List Row) → until ≤ step → lines_within version from until step rs ≡ []
unfolding lines_within
within-after version from until step [] le = refl
within-after version from until step (r ∷ rs) le =
    ap (λ t. t ++ lines_within version from until (step + 1) rs) (here-after version from until step r le)
    ∙ within-after version from until (step + 1) rs (omega arith)

-- the lines of one row more
pub within-one : (version from until step : ℕ) (r : Row) → lines_within version from until step (r ∷ []) ≡ here version from until step r ++ []
unfolding lines_within
within-one version from until step r = refl

-- ---- by step, and by number

from-here : (version from until step : ℕ) (rs : List Row) → from ≤ step → lines_within version from until step rs ≡ lines_from version step (take (until - step) rs)
unfolding lines_within lines_from
from-here version from until step [] le = ap (λ rs. lines_from version step rs) (sym (take-nil (until - step)))
from-here version from until step (r ∷ rs) le = ⊎_elim
    (λ lt.
    let more : until - step ≡ suc (until - (step + 1)) = omega arith in
    ap (λ t. t ++ lines_within version from until (step + 1) rs) (here-in version from until step r le lt)
    ∙ ap (λ t. row_lines version step r ++ t) (from-here version from until (step + 1) rs (omega arith))
    ∙ ap (λ k. lines_from version step (take k (r ∷ rs))) (sym more))
    (λ over.
    let none : until - step ≡ 0 = omega arith in
    ap (λ t. t ++ lines_within version from until (step + 1) rs) (here-after version from until step r over)
    ∙ within-after version from until (step + 1) rs (omega arith)
    ∙ ap (λ k. lines_from version step (take k (r ∷ rs))) (sym none))
    (cases_lt step until)

pub within-is : (version from until step : ℕ) (rs : List Row) → step ≤ from
    → lines_within version from until step rs ≡ lines_from version from (take (until - from) (drop (from - step) rs))
unfolding lines_within lines_from
within-is version from until step [] le =
    ap (λ rs. lines_from version from rs) (sym (take-nil (until - from))) ∙ ap (λ rs. lines_from version from (take (until - from) rs)) (sym (drop-nil (from - step)))
within-is version from until step (r ∷ rs) le = ⊎_elim
    (λ lt.
    let more : from - step ≡ suc (from - (step + 1)) = omega arith in
    ap (λ t. t ++ lines_within version from until (step + 1) rs) (here-before version from until step r lt)
    ∙ within-is version from until (step + 1) rs (omega arith)
    ∙ ap (λ k. lines_from version from (take (until - from) (drop k (r ∷ rs)))) (sym more))
    (λ over.
    let same : from ≡ step = omega arith in
    let none : from - step ≡ 0 = omega arith in
    from-here version from until step (r ∷ rs) (omega arith)
    ∙ ap (λ k. lines_from version k (take (until - k) (r ∷ rs))) (sym same)
    ∙ ap (λ k. lines_from version from (take (until - from) (drop k (r ∷ rs)))) (sym none))
    (cases_lt step from)

-- ---- the element at a place

pub record IsAt {A : Type 0} (P : A → Type 0) (xs : List A) (i : ℕ) (x : A) (rest : List A) : Type 0 where
  pub from : drop i xs ≡ x ∷ rest
  pub behind : drop (i + 1) xs ≡ rest
  pub front : take (i + 1) xs ≡ take i xs ++ x ∷ []
  pub count : length (take i xs) ≡ i
  pub holds : P x

pub at-place : {A : Type 0} (P : A → Type 0) (xs : List A) (i : ℕ) → i < length xs → AllByRecursion P xs → (x : A) × (rest : List A) × IsAt P xs i x rest
at-place P [] i lt all = absurd (omega arith)
at-place P (x ∷ xs) zero lt all = (x, xs, record { from = refl; behind = refl; front = refl; count = refl; holds = all.0 })
at-place P (x ∷ xs) (suc i) lt all =
    let more = at-place P xs i (omega arith) all.1 in
    let next : suc i + 1 ≡ suc (i + 1) = omega arith in (
      more.0,
      more.1,
      record {
        from = more.2.from;
        behind = ap (λ k. drop k (x ∷ xs)) next ∙ more.2.behind;
        front = ap (λ k. take k (x ∷ xs)) next ∙ ap (λ t. x ∷ t) more.2.front;
        count = ap (λ k. suc k) more.2.count;
        holds = more.2.holds;
      },
    )
