-- Pieces of all indices below n, each once, in the order of their indices.
use Rattle.std.proofs.Common.{◌≡◌, ℕ, zero, suc, ◌+◌, ◌<◌, ◌≤◌, Bool, true, false, List, [], ◌∷◌, length, map, get_or, sym, refl, ap, ◌∙◌, subst, arith}
use Rattle.std.specs.Prelude.{sum_by, nat_lt, ◌==◌}
use Rattle.std.specs.List.{AllByRecursion, range_with_len}
use Rattle.std.specs.List.Sorted.{IsPermutation, IsNonDecreasingBy}
use Rattle.std.proofs.lemmas.Bool.Decides.{nat_tests}
use Rattle.std.proofs.lemmas.List.Elements.{All-from_recursion, recursion_from_All}
use Rattle.std.proofs.lemmas.List.Sorted.{sum_by-IsPermutation, All-permutation}
use Rattle.std.proofs.lemmas.List.Sums.{sum_by-cons}
use Rattle.rv_book.specs.BoardLaws.{one, times}
use Rattle.rv_book.specs.declared.task.Piece.{Piece}

abbrev number : Piece → ℕ
number p = p.index

-- whether a piece has index x, as a number
abbrev at : ℕ → Piece → ℕ
at x p = one (p.index == x)

abbrev counts : ℕ → List Piece → ℕ
counts x ps = sum_by (at x) ps

one-of : (x : ℕ) → one (x == x) ≡ 1
one-of x = grind (arith, nat_tests)

-- the indices are those from a to before a + n, each once
abbrev AreAll : ℕ → ℕ → List Piece → Type 0
AreAll a n ps = (x : ℕ) → counts x ps + one (nat_lt x a) ≡ one (nat_lt x (a + n))

none-before : (x b : ℕ) (ps : List Piece) → AllByRecursion (λ (p : Piece). b ≤ p.index) ps → x < b → counts x ps ≡ 0
none-before x b [] all lt = refl
none-before x b (p ∷ ps) all lt =
    let le : b ≤ p.index = all.0 in
    let apart : one (p.index == x) ≡ 0 = other x p.index (omega (arith, lt, le)) in
    omega (arith, sum_by-cons (at x) p ps, apart, none-before x b ps all.1 lt)
  where
    other : (x i : ℕ) → x < i → one (i == x) ≡ 0
    other x i lt = grind (arith, nat_tests)

tail-sorted : (p : Piece) (ps : List Piece) → IsNonDecreasingBy number (p ∷ ps) → IsNonDecreasingBy number ps
tail-sorted p ps up i j d le lt = up (suc i) (suc j) d (omega (arith, le)) (omega (arith, lt))

all-at : (P : Piece → Type 0) (ps : List Piece) → ((j : ℕ) (d : Piece) → j < length ps → P (get_or ps j d)) → AllByRecursion P ps
all-at P [] h = tt
all-at P (p ∷ ps) h = (h 0 p (omega arith), all-at P ps (λ j d lt. h (suc j) d (omega (arith, lt))))

head-least : (p : Piece) (ps : List Piece) → IsNonDecreasingBy number (p ∷ ps) → AllByRecursion (λ (q : Piece). p.index ≤ q.index) ps
head-least p ps up = all-at (λ (q : Piece). p.index ≤ q.index) ps (λ j d lt. up 0 (suc j) d (omega arith) (omega (arith, lt)))

one-more : (i x : ℕ) → one (i == x) + one (nat_lt x i) ≡ one (nat_lt x (i + 1))
one-more i x = grind (arith, nat_tests)

sorted-all : (a n : ℕ) (ps : List Piece) → IsNonDecreasingBy number ps → AreAll a n ps → map number ps ≡ range_with_len a n
sorted-all a zero [] up all = refl
sorted-all a (suc n) [] up all = absurd (gap a n (all a))
  where
    gap : (a n : ℕ) → 0 + one (nat_lt a a) ≡ one (nat_lt a (a + suc n)) → ⊥
    gap a n h = let l : one (nat_lt a a) ≡ 0 = grind (arith, nat_tests) in let r : one (nat_lt a (a + suc n)) ≡ 1 = grind (arith, nat_tests) in omega (arith, h, l, r)
sorted-all a zero (p ∷ ps) up all =
    let i : ℕ = p.index in
    let same : one (nat_lt i (a + 0)) ≡ one (nat_lt i a) = ap (λ m. one (nat_lt i m)) (let e : a + 0 ≡ a = omega arith in e) in
    absurd (omega (arith, sum_by-cons (at i) p ps, one-of i, all i, same))
sorted-all a (suc n) (p ∷ ps) up all =
    let i : ℕ = p.index in
    let low : a ≤ i = lower a i (a + suc n) (counts i ps) (ap (λ m. m + one (nat_lt i a)) (sym (sum_by-cons (at i) p ps ∙ ap (λ m. m + counts i ps) (one-of i))) ∙ all i) in
    let high : i ≤ a = upper a i (λ lt. none-before a i (p ∷ ps) ((let le : i ≤ i = omega arith in le), head-least p ps up) lt) (all a) in
    let is : i ≡ a = omega (arith, low, high) in
    let rest : map number ps ≡ range_with_len (a + 1) n = sorted-all (a + 1) n ps (tail-sorted p ps up) (λ x. left x is (all x)) in
    λ t. is t ∷ rest t
  where
    lower : (a i b r : ℕ) → 1 + r + one (nat_lt i a) ≡ one (nat_lt i b) → a ≤ i
    lower a i b r h = by (nat_lt i a) refl (nat_lt i b) refl
      where
        by : (s : Bool) → nat_lt i a ≡ s → (t : Bool) → nat_lt i b ≡ t → a ≤ i
        by false e t f = grind (arith, nat_tests)
        by true e true f = absurd (omega (arith, h, ap one e, ap one f))
        by true e false f = absurd (omega (arith, h, ap one e, ap one f))

    upper : (a i : ℕ) → (a < i → counts a (p ∷ ps) ≡ 0) → counts a (p ∷ ps) + one (nat_lt a a) ≡ one (nat_lt a (a + suc n)) → i ≤ a
    upper a i none h = by (nat_lt a i) refl
      where
        by : (s : Bool) → nat_lt a i ≡ s → i ≤ a
        by false e = grind (arith, nat_tests)
        by true e =
            let lt : a < i = grind (arith, nat_tests) in
            let l : one (nat_lt a a) ≡ 0 = grind (arith, nat_tests) in
            let r : one (nat_lt a (a + suc n)) ≡ 1 = grind (arith, nat_tests) in
            absurd (omega (arith, h, l, r, none lt))

    left : (x : ℕ) → p.index ≡ a → counts x (p ∷ ps) + one (nat_lt x a) ≡ one (nat_lt x (a + suc n)) → counts x ps + one (nat_lt x (a + 1)) ≡ one (nat_lt x ((a + 1) + n))
    left x is h =
        let here : one (p.index == x) ≡ one (a == x) = ap (λ m. one (m == x)) is in
        let on : one (nat_lt x ((a + 1) + n)) ≡ one (nat_lt x (a + suc n)) = ap (λ m. one (nat_lt x m)) (let e : (a + 1) + n ≡ a + suc n = omega arith in e) in
        omega (arith, h, here, on, sum_by-cons (at x) p ps, one-more a x)

-- ---- pieces of a function

module _ (piece : ℕ → Piece) (numbered : (i : ℕ) → (piece i).index ≡ i) where
  counts-taken : (x : ℕ) (taken : List ℕ) → counts x (map piece taken) ≡ times x taken
  counts-taken x [] = refl
  counts-taken x (i ∷ is) =
      let same : one ((piece i).index == x) ≡ one (i == x) = ap (λ m. one (m == x)) (numbered i) in
      omega (arith, sum_by-cons (at x) (piece i) (map piece is), sum_by-cons (λ (z : ℕ). one (z == x)) i is, same, counts-taken x is)

  of-their-index : (taken : List ℕ) → AllByRecursion (λ (p : Piece). p ≡ piece p.index) (map piece taken)
  of-their-index [] = tt
  of-their-index (i ∷ is) = (ap piece (sym (numbered i)), of-their-index is)

  by-index : (ps : List Piece) → AllByRecursion (λ (p : Piece). p ≡ piece p.index) ps → ps ≡ map piece (map number ps)
  by-index [] all = refl
  by-index (p ∷ ps) all = λ t. all.0 t ∷ by-index ps all.1 t

  pub sorted-pieces : (n : ℕ) (taken : List ℕ) (xs ys : List Piece) → IsPermutation xs ys → IsNonDecreasingBy number ys → xs ≡ map piece taken → ((x : ℕ) → times x taken ≡ one (nat_lt x n))
      → ys ≡ map piece (range_with_len 0 n)
  sorted-pieces n taken xs ys moved up are each =
      let P : Piece → Type 0 = λ p. p ≡ piece p.index in
      let before : AllByRecursion P xs = subst (AllByRecursion P) (sym are) (of-their-index taken) in
      let after : AllByRecursion P ys = recursion_from_All P ys (All-permutation P xs ys moved (All-from_recursion P xs before)) in
      let count : (x : ℕ) → counts x ys ≡ one (nat_lt x n) = λ x. sum_by-IsPermutation (at x) xs ys moved ∙ ap (counts x) are ∙ counts-taken x taken ∙ each x in
      let all : AreAll 0 n ys = λ x. (
      let zero-less : one (nat_lt x 0) ≡ 0 = grind (arith, nat_tests) in
      let same : one (nat_lt x (0 + n)) ≡ one (nat_lt x n) = ap (λ m. one (nat_lt x m)) (let e : 0 + n ≡ n = omega arith in e) in
      omega (arith, count x, zero-less, same)) in
      by-index ys after ∙ ap (map piece) (sorted-all 0 n ys up all)
