-- Entries of different cells, sorted, are those of the cells in rising order.
use Rattle.std.proofs.Common.{◌≡◌, ◌≢◌, ℕ, suc, ◌+◌, ◌<◌, ◌≤◌, true, false, cond, ◌==◌, List, [], ◌∷◌, map, length, get_or, sum_by, refl, sym, ◌∙◌, ap, subst, inl, inr, arith}
use Rattle.std.specs.List.{AllByRecursion}
use Rattle.std.specs.List.Sorted.{IsPermutation, IsNonDecreasingBy}
use Rattle.std.proofs.lemmas.List.Sorted.{sum_by-IsPermutation, All-permutation, IsPermutation-sym}
use Rattle.std.proofs.lemmas.List.Elements.{All-from_recursion}
use Rattle.std.proofs.lemmas.List.Recursion.{is_sum_by}
use Rattle.std.proofs.lemmas.Bool.{eqb-true, eqb-false, eq-eqb}
use Rattle.rv_base.specs.declared.record.TableEntry.{TableEntry}
use Rattle.rv_spec.specs.Grammar.{IsRising}
use Rattle.rv_rules.specs.Chain.{AllDiffer}
use Rattle.rv_rules.specs.Membership.{In}
use Rattle.rv_rules.proofs.Lemmas.{in-map, in-map-back, all-in, all-of, same-rising}

abbrev pub cells : List TableEntry → List ℕ
cells xs = map (λ x. x.cell) xs

-- ---- how often a cell is there

abbrev one_at : ℕ → TableEntry → ℕ
one_at c x = cond (x.cell == c) 1 0

abbrev times : ℕ → List TableEntry → ℕ
times c [] = 0
times c (x ∷ xs) = one_at c x + times c xs

-- an order doesn't matter
times-permuted : (c : ℕ) (xs ys : List TableEntry) → IsPermutation xs ys → times c ys ≡ times c xs
times-permuted c xs ys p =
    let by : (zs : List TableEntry) → times c zs ≡ sum_by (one_at c) zs = is_sum_by (times c) (one_at c) refl (λ z zs. refl) in
    by ys ∙ sum_by-IsPermutation (one_at c) xs ys p ∙ sym (by xs)

never : (c : ℕ) (xs : List TableEntry) → AllByRecursion (λ d. c ≢ d) (cells xs) → times c xs ≡ 0
never c [] h = refl
never c (x ∷ xs) h =
    elim (x.cell == c) as (λ b. (x.cell == c) ≡ b → cond b 1 0 + times c xs ≡ 0) [
      | true ↦ λ e. absurd (h.0 (sym (eqb-true x.cell c e)))
      | false ↦ λ e. omega (arith, never c xs h.1)
    ] refl

once : (c : ℕ) (xs : List TableEntry) → AllDiffer (cells xs) → times c xs ≤ 1
once c [] d = omega arith
once c (x ∷ xs) d =
    elim (x.cell == c) as (λ b. (x.cell == c) ≡ b → cond b 1 0 + times c xs ≤ 1) [
      | true ↦ λ e. (let none : times c xs ≡ 0 = subst (λ y. times y xs ≡ 0) (eqb-true x.cell c e) (never x.cell xs d.0) in omega arith)
      | false ↦ λ e. omega (arith, once c xs d.1)
    ] refl

some-times : (c : ℕ) (xs : List TableEntry) → In c (cells xs) → 1 ≤ times c xs
some-times c [] m = absurd m
some-times c (x ∷ xs) (inl same) = subst (λ b. 1 ≤ cond b 1 0 + times c xs) (sym (eq-eqb x.cell c (sym same))) (omega arith)
some-times c (x ∷ xs) (inr m) = omega (arith, some-times c xs m)

-- ---- entries that don't fall, of different cells, rise

all-at : {A : Type 0} (P : A → Type 0) (xs : List A) → ((j : ℕ) (d : A) → j < length xs → P (get_or xs j d)) → AllByRecursion P xs
all-at P [] h = tt
all-at P (x ∷ xs) h = (h 0 x (omega arith), all-at P xs (λ j d less. h (suc j) d (omega arith)))

sorted-rises : (xs : List TableEntry) → IsNonDecreasingBy (λ (x : TableEntry). x.cell) xs → ((c : ℕ) → times c xs ≤ 1) → IsRising (cells xs)
sorted-rises [] up few = tt
sorted-rises (x ∷ xs) up few =
    let low : AllByRecursion (λ (y : TableEntry). x.cell ≤ y.cell) xs = all-at (λ (y : TableEntry). x.cell ≤ y.cell) xs (λ j d less. up 0 (suc j) d (omega arith) (omega arith)) in (
      all-of (λ c. x.cell < c) (cells xs) (λ c m. (
          let r = in-map-back (λ (y : TableEntry). y.cell) c xs m in
          let le : x.cell ≤ r.0.cell = all-in (λ (y : TableEntry). x.cell ≤ y.cell) xs low r.0 r.1 in
          elim (x.cell == c) as (λ b. (x.cell == c) ≡ b → x.cell < c) [
            | true ↦ λ e. absurd (
                let there : 1 ≤ times c xs = some-times c xs m in
                let twice : cond true 1 0 + times c xs ≤ 1 = subst (λ b. cond b 1 0 + times c xs ≤ 1) e (few c) in
                omega arith
                )
            | false ↦ λ e. (let other : x.cell ≢ c = eqb-false x.cell c e in omega (arith, r.2))
          ] refl
          )),
      sorted-rises xs (λ a b d le less. up (suc a) (suc b) d (omega arith) (omega arith))
          (λ c. (let most : cond (x.cell == c) 1 0 + times c xs ≤ 1 = few c in omega arith)),
    )

-- ---- the sorted entries

-- each entry is that of its cell
from-cells : (f : ℕ → TableEntry) (xs : List TableEntry) → AllByRecursion (λ x. x ≡ f x.cell) xs → xs ≡ map f (cells xs)
from-cells f [] h = refl
from-cells f (x ∷ xs) h = let rest = from-cells f xs h.1 in λ i. h.0 i ∷ rest i

-- a permutation has the same members
swapped-in : (P : TableEntry → Type 0) (xs ys : List TableEntry) → IsPermutation xs ys → AllByRecursion P xs → AllByRecursion P ys
swapped-in P xs ys p h = all-at P ys (All-permutation P xs ys p (All-from_recursion P xs h))

pub sorted-are : (f : ℕ → TableEntry) (xs ys : List TableEntry) (cs : List ℕ) → IsPermutation xs ys → IsNonDecreasingBy (λ (x : TableEntry). x.cell) ys
    → AllByRecursion (λ x. x ≡ f x.cell) xs → AllDiffer (cells xs) → IsRising cs → ((c : ℕ) → In c (cells xs) → In c cs) → ((c : ℕ) → In c cs → In c (cells xs)) → ys ≡ map f cs
sorted-are f xs ys cs p up each differ rises to back =
    let rising : IsRising (cells ys) = sorted-rises ys up (λ c. (let same : times c ys ≡ times c xs = times-permuted c xs ys p in let few : times c xs ≤ 1 = once c xs differ in omega arith)) in
    let in_xs : AllByRecursion (λ y. In y xs) ys = swapped-in (λ y. In y xs) xs ys p (all-of (λ y. In y xs) xs (λ y m. m)) in
    let in_ys : AllByRecursion (λ x. In x ys) xs = swapped-in (λ x. In x ys) ys xs (IsPermutation-sym xs ys p) (all-of (λ x. In x ys) ys (λ x m. m)) in
    let forth : (c : ℕ) → In c (cells ys) → In c (cells xs) = λ c m. (let r = in-map-back (λ (y : TableEntry). y.cell) c ys m in subst (λ z. In z (cells xs)) (sym r.2) (in-map (λ (y : TableEntry). y.cell) r.0 xs (all-in (λ y. In y xs) ys in_xs r.0 r.1))) in
    let over : (c : ℕ) → In c (cells xs) → In c (cells ys) = λ c m. (let r = in-map-back (λ (y : TableEntry). y.cell) c xs m in subst (λ z. In z (cells ys)) (sym r.2) (in-map (λ (y : TableEntry). y.cell) r.0 ys (all-in (λ x. In x ys) xs in_ys r.0 r.1))) in
    let same : cells ys ≡ cs = same-rising (cells ys) cs rising rises (λ c m. to c (forth c m)) (λ c m. over c (back c m)) in
    from-cells f ys (swapped-in (λ x. x ≡ f x.cell) xs ys p each) ∙ ap (map f) same
