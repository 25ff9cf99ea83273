-- Lists that are one multiset have equal sums, and so one digest.
use Rattle.std.proofs.Common.{◌≡◌, ℕ, ◌+◌, ◌%◌, ◌^◌, ◌<◌, Bool, true, false, cond, ◌&&◌, ◌==◌, List, [], ◌∷◌, map, refl, sym, ◌∙◌, ap, subst, add_left_cancel, arith}
use Rattle.std.proofs.Math.Nat.{add_left_comm}
use Rattle.std.specs.Prelude.{sum_by, slice_index}
use Rattle.std.proofs.lemmas.List.Sums.{sum_by-cons}
use Rattle.std.proofs.lemmas.Bool.{eqb-true, eq-eqb}
use Rattle.rv_base.specs.declared.record.Tuple.{Tuple}
use Rattle.rv_spec.specs.Digest.{Lanes, lane_numbers, digest_lane, digest}
use Rattle.rv_spec.specs.Multiset.{same_tuple, count, Same}
use Rattle.rv_rules.proofs.Conjunctions.{both-true, left-true, right-true}

-- the test of tuples decides that they are equal
pub same_tuple-refl : (t : Tuple) → same_tuple t t ≡ true
same_tuple-refl t = both-true _ _ (both-true _ _ (eq-eqb t.cell t.cell refl) (eq-eqb t.value t.value refl)) (eq-eqb t.time t.time refl)

pub same_tuple-true : (t u : Tuple) → same_tuple t u ≡ true → t ≡ u
same_tuple-true t u e =
    let both = left-true (t.cell == u.cell && t.value == u.value) (t.time == u.time) e in
    let cell = eqb-true t.cell u.cell (left-true (t.cell == u.cell) (t.value == u.value) both) in
    let value = eqb-true t.value u.value (right-true (t.cell == u.cell) (t.value == u.value) both) in
    let time = eqb-true t.time u.time (right-true (t.cell == u.cell && t.value == u.value) (t.time == u.time) e) in
    λ i. record { cell = cell i; value = value i; time = time i }

-- one where the tuples are equal, else zero
abbrev one_if : Tuple → Tuple → ℕ
one_if t u = cond (same_tuple t u) 1 0

pub count-cons : (t u : Tuple) (us : List Tuple) → count t (u ∷ us) ≡ one_if t u + count t us
unfolding count
count-cons t u us = sum_by-cons (one_if t) u us

-- the list without the first tuple that is equal to x
abbrev pub without : Tuple → List Tuple → List Tuple
without x [] = []
without x (y ∷ ys) = cond (same_tuple x y) ys (y ∷ without x ys)

pub sum_by-without : (f : Tuple → ℕ) (x : Tuple) (ys : List Tuple) → 0 < count x ys → sum_by f ys ≡ f x + sum_by f (without x ys)
unfolding count
sum_by-without f x [] h = absurd (omega arith)
sum_by-without f x (y ∷ ys) h = go (same_tuple x y) refl (sum_by-without f x ys)
  where
    go : (b : Bool) → same_tuple x y ≡ b → (0 < count x ys → sum_by f ys ≡ f x + sum_by f (without x ys)) → sum_by f (y ∷ ys) ≡ f x + sum_by f (cond b ys (y ∷ without x ys))
    go true e rest = sum_by-cons f y ys ∙ ap (λ t. f t + sum_by f ys) (sym (same_tuple-true x y e))
    go false e rest =
        let more : 0 < one_if x y + count x ys = subst (λ n. 0 < n) (count-cons x y ys) h in
        let less : 0 < 0 + count x ys = subst (λ b. 0 < cond b 1 0 + count x ys) e more in
        sum_by-cons f y ys ∙ ap (λ n. f y + n) (rest (omega (arith, less))) ∙ add_left_comm (f y) (f x) (sum_by f (without x ys)) ∙ ap (λ n. f x + n) (sym (sum_by-cons f y (without x ys)))

-- lists in which each tuple stands equally often have the same sum of any number of their tuples
pub sum_by-same : (f : Tuple → ℕ) (xs ys : List Tuple) → ((t : Tuple) → count t xs ≡ count t ys) → sum_by f xs ≡ sum_by f ys
unfolding count
sum_by-same f [] [] e = refl
sum_by-same f [] (y ∷ ys) e =
    let one : one_if y y ≡ 1 = ap (λ b. cond b 1 0) (same_tuple-refl y) in
    let none : 0 ≡ one_if y y + count y ys = e y ∙ count-cons y y ys in
    absurd (omega (arith, one, none))
sum_by-same f (x ∷ xs) ys e =
    let one : one_if x x ≡ 1 = ap (λ b. cond b 1 0) (same_tuple-refl x) in
    let here : one_if x x + count x xs ≡ count x ys = sym (count-cons x x xs) ∙ e x in
    let there : 0 < count x ys = omega (arith, one, here) in
    let rest : (t : Tuple) → count t xs ≡ count t (without x ys) = λ t. add_left_cancel (one_if t x) (sym (count-cons t x xs) ∙ e t ∙ sum_by-without (one_if t) x ys there) in
    sum_by-cons f x xs ∙ ap (λ n. f x + n) (sum_by-same f xs (without x ys) rest) ∙ sym (sum_by-without f x ys there)

-- one multiset, one digest
pub digest-same : (lanes : Lanes) (xs ys : List Tuple) → Same xs ys → digest lanes xs ≡ digest lanes ys
unfolding digest_lane
digest-same lanes xs ys s = λ i. map (λ j. sum_by-same (λ t. slice_index (lanes t) j) xs ys s.counts i % 2 ^ 64) lane_numbers
