-- The order of tuples is total, and a list that is sorted by it is in order.
use Rattle.std.proofs.Common.{◌≡◌, ◌⊎◌, ℕ, suc, ◌+◌, ◌<◌, ◌≤◌, not, ◌&&◌, ◌==◌, ◌≢◌, true, false, List, [], ◌∷◌, length, get_or, refl, sym, ◌∙◌, ap, subst, inl, inr, arith, add-one, is_lt, nat_cmp, Less, Greater, Equal, Ordering, true≢false}
use Rattle.std.specs.Ordering.{ordering_then}
use Rattle.std.specs.Cmp.{nat_cmp_is}
use Rattle.std.proofs.lemmas.Bool.{cases_order, and_from, eq-eqb}
use Rattle.rv_base.specs.declared.record.Tuple.{Tuple}
use Rattle.rv_rules.proofs.Lemmas.{all-in, all-of}
use Rattle.rv_order.specs.Order.{IsBefore, IsInOrder}

-- the derived order, of tuples whose numbers compare by c
abbrev by_parts : (ℕ → ℕ → Ordering) → Tuple → Tuple → Ordering
by_parts c t u = ordering_then (c t.cell u.cell) (ordering_then (c t.value u.value) (c t.time u.time))

abbrev pub tuple_cmp : Tuple → Tuple → Ordering
tuple_cmp = by_parts nat_cmp

-- where c answers o of a number before another, it answers o of a tuple before another
by_parts-before : (c : ℕ → ℕ → Ordering) (o : Ordering) → ((p : Ordering) → ordering_then o p ≡ o) → ((a b : ℕ) → a < b → c a b ≡ o) → ((a b : ℕ) → a ≡ b → c a b ≡ Equal) → (t u : Tuple) → IsBefore t u → by_parts c t u ≡ o
by_parts-before c o stays less equal t u (inl h) = ap (λ p. ordering_then p (ordering_then (c t.value u.value) (c t.time u.time))) (less t.cell u.cell h) ∙ stays (ordering_then (c t.value u.value) (c t.time u.time))
by_parts-before c o stays less equal t u (inr h) = ap (λ p. ordering_then p (ordering_then (c t.value u.value) (c t.time u.time))) (equal t.cell u.cell h.0) ∙ rest h.1
  where
    rest : ((t.value < u.value) ⊎ ((t.value ≡ u.value) × (t.time < u.time))) → ordering_then (c t.value u.value) (c t.time u.time) ≡ o
    rest (inl k) = ap (λ p. ordering_then p (c t.time u.time)) (less t.value u.value k) ∙ stays (c t.time u.time)
    rest (inr k) = ap (λ p. ordering_then p (c t.time u.time)) (equal t.value u.value k.0) ∙ less t.time u.time k.1

pub lt-from-before : (t u : Tuple) → IsBefore t u → is_lt (tuple_cmp t u) ≡ true
lt-from-before t u h = ap is_lt (by_parts-before nat_cmp Less (λ p. refl) (λ a b k. sym (nat_cmp_is a b Less k)) (λ a b k. sym (nat_cmp_is a b Equal k)) t u h)

pub not-lt-from-after : (t u : Tuple) → IsBefore u t → is_lt (tuple_cmp t u) ≡ false
not-lt-from-after t u h = ap is_lt (by_parts-before (λ a b. nat_cmp b a) Greater (λ p. refl) (λ a b k. sym (nat_cmp_is b a Greater k)) (λ a b k. sym (nat_cmp_is b a Equal (sym k))) u t h)

-- one of two tuples is before the other, or they are equal
pub cases-before : (t u : Tuple) → (t ≡ u) ⊎ (IsBefore t u ⊎ IsBefore u t)
cases-before t u = elim (cases_order t.cell u.cell) [
  | inl c ↦ elim (cases_order t.value u.value) [
    | inl v ↦ elim (cases_order t.time u.time) [
      | inl w ↦ inl (λ i. record { cell = c i; value = v i; time = w i })
      | inr (inl h) ↦ inr (inl (inr (c, inr (v, h))))
      | inr (inr h) ↦ inr (inr (inr (sym c, inr (sym v, h))))
    ]
    | inr (inl h) ↦ inr (inl (inr (c, inl h)))
    | inr (inr h) ↦ inr (inr (inr (sym c, inl h)))
  ]
  | inr (inl h) ↦ inr (inl (inl h))
  | inr (inr h) ↦ inr (inr (inl h))
]

pub before-trans : (t u v : Tuple) → IsBefore t u → IsBefore u v → IsBefore t v
before-trans t u v (inl h) (inl k) = inl (omega arith)
before-trans t u v (inl h) (inr k) = inl (omega (arith, k.0))
before-trans t u v (inr h) (inl k) = inl (omega (arith, h.0))
before-trans t u v (inr h) (inr k) = inr (h.0 ∙ k.0, rest h.1 k.1)
  where
    rest : ((t.value < u.value) ⊎ ((t.value ≡ u.value) × (t.time < u.time))) → ((u.value < v.value) ⊎ ((u.value ≡ v.value) × (u.time < v.time))) → ((t.value < v.value) ⊎ ((t.value ≡ v.value) × (t.time < v.time)))
    rest (inl h) (inl k) = inl (omega arith)
    rest (inl h) (inr k) = inl (omega (arith, k.0))
    rest (inr h) (inl k) = inl (omega (arith, h.0))
    rest (inr h) (inr k) = inr (h.0 ∙ k.0, omega (arith, h.1, k.1))

pub before-irreflexive : (t : Tuple) → ¬ IsBefore t t
before-irreflexive t (inl h) = omega arith
before-irreflexive t (inr h) = elim h.1 [ inl k ↦ omega arith | inr k ↦ omega (arith, k.1) ]

-- what is before a tuple is before each tuple that isn't before that one
pub before-not_before : (t u v : Tuple) → IsBefore t u → ¬ IsBefore v u → IsBefore t v
before-not_before t u v h k = elim (cases-before v u) [
  | inl e ↦ subst (λ w. IsBefore t w) (sym e) h
  | inr (inl b) ↦ absurd (k b)
  | inr (inr b) ↦ before-trans t u v h b
]

-- what `!=` says
pub unequal : (t u : Tuple) → not (t.cell == u.cell && (t.value == u.value && t.time == u.time)) ≡ true → t ≢ u
unequal t u h e =
    let same : (t.cell == u.cell && (t.value == u.value && t.time == u.time)) ≡ true = and_from _ _ (eq-eqb t.cell u.cell (ap (λ w. w.cell) e)) (and_from _ _ (eq-eqb t.value u.value (ap (λ w. w.value) e)) (eq-eqb t.time u.time (ap (λ w. w.time) e))) in
    true≢false (sym h ∙ ap not same)

-- neighbours in order make a list in order
pub in-order : (ts : List Tuple) → ((k : ℕ) (d : Tuple) → suc k < length ts → ¬ IsBefore (get_or ts (suc k) d) (get_or ts k d)) → IsInOrder ts
in-order [] h = tt
in-order (t ∷ []) h = (tt, tt)
in-order (t ∷ u ∷ us) h =
    let rest : IsInOrder (u ∷ us) = in-order (u ∷ us) (λ k d lt. h (suc k) d (omega arith)) in
    let head : ¬ IsBefore u t = h 0 t (omega arith) in
    ((head, all-of (λ v. ¬ IsBefore v t) us (λ v m b. all-in (λ v. ¬ IsBefore v u) us rest.0 v m (before-not_before v t u b head))), rest)

-- what `sort_unstable` gives
pub in-order-from-sorted : (ts : List Tuple) → ((k : ℕ) (d : Tuple) → 0 ≤ k → k + 1 < length ts → is_lt (tuple_cmp (get_or ts (k + 1) d) (get_or ts k d)) ≡ false) → IsInOrder ts
in-order-from-sorted ts h = in-order ts (λ k d lt b.
    let sorted : is_lt (tuple_cmp (get_or ts (suc k) d) (get_or ts k d)) ≡ false = subst (λ n. is_lt (tuple_cmp (get_or ts n d) (get_or ts k d)) ≡ false) (add-one k) (h k d (omega arith) (omega arith)) in
    true≢false (sym (lt-from-before (get_or ts (suc k) d) (get_or ts k d) b) ∙ sorted))
