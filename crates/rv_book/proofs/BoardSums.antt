-- What the board's journal adds to a sum.
use Rattle.std.proofs.Common.{◌≡◌, ◌≢◌, ℕ, zero, suc, ◌+◌, ◌<◌, ◌≤◌, true, false, cond, not, ◌&&◌, ◌||◌, List, [], ◌∷◌, ◌++◌, sym, refl, ap, ◌∙◌, subst, arith}
use Rattle.std.specs.Prelude.{sum_by, nat_lt, ◌==◌, IsTrue}
use Rattle.std.specs.List.{range_with_len}
use Rattle.std.proofs.lemmas.Bool.Decides.{nat_tests}
use Rattle.std.proofs.Math.Bool.{or-false, or-true}
use Rattle.std.proofs.lemmas.List.Sums.{sum_by-cons, sum_by_push}
use Rattle.std.proofs.lemmas.List.Folds.{list_any-append}
use mathlib.Core.Logic.{dite}
use native.Mathlib.Decide.{ℕ_discrete}
use Rattle.rv_book.specs.Board.{Board, initial_board, permitted, board_after, drawn_by, is_in, is_journaled}
use Rattle.rv_book.specs.declared.event.BoardEvent.{BoardEvent}
use Rattle.rv_book.specs.declared.event.BoardEvent.TheVariants.{Claim, Deposit}
use Rattle.rv_book.specs.BoardLaws.{EachAddedOnce, DoneAddsAll}
use Rattle.rv_book.proofs.BoardLaws.{kept, and-true, not-true, all-journaled}

-- sums over numbers in a row that differ at one number
module _ (g h : ℕ → ℕ) (j k : ℕ) (here : h j ≡ g j + k) (elsewhere : (i : ℕ) → i ≢ j → h i ≡ g i) where
  sum-above : (a n : ℕ) → j < a → sum_by h (range_with_len a n) ≡ sum_by g (range_with_len a n)
  sum-above a zero lt = refl
  sum-above a (suc n) lt = omega (arith, sum_by-cons h a (range_with_len (a + 1) n), sum_by-cons g a (range_with_len (a + 1) n), elsewhere a (λ e. omega (arith, lt, e)), sum-above (a + 1) n (omega (arith, lt)))

  sum-with : (a n : ℕ) → a ≤ j → j < a + n → sum_by h (range_with_len a n) ≡ sum_by g (range_with_len a n) + k
  sum-with a zero le lt = absurd (omega (arith, le, lt))
  sum-with a (suc n) le lt = dite (ℕ_discrete a j)
      (λ same. let first : h a ≡ g a + k = subst (λ i. h i ≡ g i + k) (sym same) here in omega (arith, sum_by-cons h a (range_with_len (a + 1) n), sum_by-cons g a (range_with_len (a + 1) n), first, sum-above (a + 1) n (omega (arith, same))))
      (λ apart. omega (arith, sum_by-cons h a (range_with_len (a + 1) n), sum_by-cons g a (range_with_len (a + 1) n), elsewhere a apart, sum-with (a + 1) n (omega (arith, le, apart)) (omega (arith, lt))))

sum-same : (g h : ℕ → ℕ) (a n : ℕ) → ((i : ℕ) → i < a + n → g i ≡ h i) → sum_by g (range_with_len a n) ≡ sum_by h (range_with_len a n)
sum-same g h a zero e = refl
sum-same g h a (suc n) e = omega (arith, sum_by-cons g a (range_with_len (a + 1) n), sum_by-cons h a (range_with_len (a + 1) n), e a (omega arith), sum-same g h (a + 1) n (λ i lt. e i (omega (arith, lt))))

journaled-push : (i p j : ℕ) (js : List (ℕ × ℕ)) → is_journaled i (js ++ (p, j) ∷ []) ≡ (is_journaled i js || (j == i))
journaled-push i p j js = list_any-append (λ (e : ℕ × ℕ). e.1 == i) js ((p, j) ∷ []) ∙ ap (λ b. is_journaled i js || b) (or-false (j == i))

abbrev AddedOnce : ℕ → Board → Type 0
AddedOnce n b = (f : ℕ → ℕ) → sum_by (λ e. f e.1) b.journal ≡ sum_by (λ i. cond (is_journaled i b.journal) (f i) 0) (range_with_len 0 n)

added-step : (n : ℕ) (b : Board) (e : BoardEvent) → AddedOnce n b → IsTrue (permitted n b e) → AddedOnce n (board_after b e)
unfolding permitted board_after
added-step n b (Claim p) sums ok f = sums f
added-step n b (Deposit p j) sums ok f =
    let t = and-true (is_in j (drawn_by b.drawn p) && nat_lt j n) (not (is_journaled j b.journal)) ok in
    let new : is_journaled j b.journal ≡ false = not-true (is_journaled j b.journal) t.1 in
    let low : nat_lt j n ≡ true = (and-true (is_in j (drawn_by b.drawn p)) (nat_lt j n) t.0).1 in
    let g : ℕ → ℕ = λ i. cond (is_journaled i b.journal) (f i) 0 in
    let h : ℕ → ℕ = λ i. cond (is_journaled i (b.journal ++ (p, j) ∷ [])) (f i) 0 in
    let now : is_journaled j (b.journal ++ (p, j) ∷ []) ≡ true = journaled-push j p j b.journal ∙ ap (λ t. is_journaled j b.journal || t) (let e : (j == j) ≡ true = grind (arith, nat_tests) in e) ∙ or-true (is_journaled j b.journal) in
    let before : g j ≡ 0 = ap (λ t. cond t (f j) 0) new in
    let after : h j ≡ f j = ap (λ t. cond t (f j) 0) now in
    let elsewhere : (i : ℕ) → i ≢ j → h i ≡ g i = λ i apart. ap (λ t. cond t (f i) 0) (journaled-push i p j b.journal ∙ ap (λ t. is_journaled i b.journal || t) (let e : (j == i) ≡ false = grind (arith, nat_tests) in e) ∙ or-false (is_journaled i b.journal)) in
    let more = sum-with g h j (f j) (omega (arith, before, after)) elsewhere 0 n (omega arith) (let lt : j < n = grind (arith, nat_tests) in omega (arith, lt)) in
    sum_by_push (λ (e : ℕ × ℕ). f e.1) b.journal (p, j) ∙ ap (λ k. k + f j) (sums f) ∙ sym more

none-added : (n : ℕ) → (f : ℕ → ℕ) → 0 ≡ sum_by (λ i. let z : ℕ = 0 in z) (range_with_len 0 n)
none-added n f = from 0 n
  where
    from : (a n : ℕ) → 0 ≡ sum_by (λ i. let z : ℕ = 0 in z) (range_with_len a n)
    from a zero = refl
    from a (suc n) = omega (arith, sum_by-cons (λ i. let z : ℕ = 0 in z) a (range_with_len (a + 1) n), from (a + 1) n)

pub each-added-once : EachAddedOnce
each-added-once n passes es b r = kept n (AddedOnce n) (added-step n) (initial_board passes) es b (none-added n) r.1

pub done-adds-all : DoneAddsAll
done-adds-all n passes es b r done f =
    each-added-once n passes es b r f ∙ sum-same (λ i. cond (is_journaled i b.journal) (f i) 0) f 0 n (λ i lt. ap (λ t. cond t (f i) 0) (all-journaled n passes es b r done i (omega (arith, lt))))
