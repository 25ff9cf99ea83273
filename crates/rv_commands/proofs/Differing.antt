-- What the comparison of two lists answers is what the outcome of settling names.
use Rattle.std.proofs.Common.{◌≡◌, ◌≢◌, ◌⊎◌, inl, inr, ◌<◌, Bool, true, false, not, cond, ◌&&◌, ◌||◌, ◌==◌, List, [], ◌∷◌, ◌++◌, filter, find, Some, None, nat_lt, refl, sym, ◌∙◌, ap, subst, arith, true≢false}
use Rattle.std.specs.List.{list_all}
use Rattle.std.proofs.lemmas.Bool.{cases_order, false≢true, eqb-true, eq-eqb, lt-ltb, ltb-true}
use Rattle.rv_base.specs.declared.record.Tuple.{Tuple}
use Rattle.rv_rules.specs.Membership.{In}
use Rattle.rv_rules.proofs.Lemmas.{count-in, in-left, in-right, left-true, right-true, both-true}
use Rattle.rv_spec.specs.Multiset.{Same, count}
use Rattle.rv_order.specs.Order.{IsBefore, IsLeastDiffering}
use Rattle.rv_commands.specs.Differing.{differing, is_before, least_differing}

-- ---- lists

in-filter : (p : Tuple → Bool) (t : Tuple) (ts : List Tuple) → In t ts → p t ≡ true → In t (filter p ts)
in-filter p t [] there h = absurd there
in-filter p t (u ∷ us) (inl is) h =
    let head : p u ≡ true = ap p (sym is) ∙ h in
    subst (λ b. In t (cond b (u ∷ filter p us) (filter p us))) (sym head) (inl is)
in-filter p t (u ∷ us) (inr rest) h = go (p u) (in-filter p t us rest h)
  where
    go : (b : Bool) → In t (filter p us) → In t (cond b (u ∷ filter p us) (filter p us))
    go true later = inr later
    go false later = later

filter-passes : (p : Tuple → Bool) (t : Tuple) (ts : List Tuple) → In t (filter p ts) → p t ≡ true
filter-passes p t [] h = absurd h
filter-passes p t (u ∷ us) h = go (p u) refl (filter-passes p t us) h
  where
    go : (b : Bool) → p u ≡ b → (In t (filter p us) → p t ≡ true) → In t (cond b (u ∷ filter p us) (filter p us)) → p t ≡ true
    go true e later (inl is) = ap p is ∙ e
    go true e later (inr rest) = later rest
    go false e later rest = later rest

filter-none : (p : Tuple → Bool) (ts : List Tuple) → ((t : Tuple) → p t ≡ false) → filter p ts ≡ []
filter-none p [] h = refl
filter-none p (t ∷ ts) h = ap (λ b. cond b (t ∷ filter p ts) (filter p ts)) (h t) ∙ filter-none p ts h

all-passes : (p : Tuple → Bool) (t : Tuple) (ts : List Tuple) → list_all p ts ≡ true → In t ts → p t ≡ true
all-passes p t [] h there = absurd there
all-passes p t (u ∷ us) h (inl is) = ap p is ∙ left-true (p u) (list_all p us) h
all-passes p t (u ∷ us) h (inr rest) = all-passes p t us (right-true (p u) (list_all p us) h) rest

passes-all : (p : Tuple → Bool) (ts : List Tuple) → ((t : Tuple) → In t ts → p t ≡ true) → list_all p ts ≡ true
passes-all p [] h = refl
passes-all p (t ∷ ts) h = both-true (p t) (list_all p ts) (h t (inl refl)) (passes-all p ts (λ u in-ts. h u (inr in-ts)))

-- the one that passes is found
finds : (p : Tuple → Bool) (t : Tuple) (ts : List Tuple) → In t ts → p t ≡ true → ((u : Tuple) → In u ts → p u ≡ true → u ≡ t) → find p ts ≡ Some t
finds p t [] there h only = absurd there
finds p t (u ∷ us) there h only = go (p u) refl there (λ rest. finds p t us rest h (λ v in-us passes. only v (inr in-us) passes))
  where
    go : (b : Bool) → p u ≡ b → In t (u ∷ us) → (In t us → find p us ≡ Some t) → cond b (Some u) (find p us) ≡ Some t
    go true e there later = ap Some (only u (inl refl) e)
    go false e (inl is) later = absurd (true≢false (sym h ∙ ap p is ∙ e))
    go false e (inr rest) later = later rest

-- ---- the order of tuples

before-is : (t u : Tuple) → IsBefore t u → is_before t u ≡ true
before-is t u (inl h) = ap (λ b. b || t.cell == u.cell && (nat_lt t.value u.value || t.value == u.value && nat_lt t.time u.time)) (lt-ltb t.cell u.cell h)
before-is t u (inr h) = or-right (nat_lt t.cell u.cell) _ (both-true (t.cell == u.cell) _ (eq-eqb t.cell u.cell h.0) (rest h.1))
  where
    or-right : (a b : Bool) → b ≡ true → (a || b) ≡ true
    or-right true b e = refl
    or-right false b e = e

    rest : ((t.value < u.value) ⊎ ((t.value ≡ u.value) × (t.time < u.time))) → (nat_lt t.value u.value || t.value == u.value && nat_lt t.time u.time) ≡ true
    rest (inl k) = ap (λ b. b || t.value == u.value && nat_lt t.time u.time) (lt-ltb t.value u.value k)
    rest (inr k) = or-right (nat_lt t.value u.value) _ (both-true (t.value == u.value) (nat_lt t.time u.time) (eq-eqb t.value u.value k.0) (lt-ltb t.time u.time k.1))

is-before : (t u : Tuple) → is_before t u ≡ true → IsBefore t u
is-before t u h = go (nat_lt t.cell u.cell) refl h
  where
    third : (b : Bool) → nat_lt t.value u.value ≡ b → (b || t.value == u.value && nat_lt t.time u.time) ≡ true → (t.value < u.value) ⊎ ((t.value ≡ u.value) × (t.time < u.time))
    third true e k = inl (ltb-true t.value u.value e)
    third false e k = inr (eqb-true t.value u.value (left-true (t.value == u.value) (nat_lt t.time u.time) k), ltb-true t.time u.time (right-true (t.value == u.value) (nat_lt t.time u.time) k))

    go : (b : Bool) → nat_lt t.cell u.cell ≡ b → (b || t.cell == u.cell && (nat_lt t.value u.value || t.value == u.value && nat_lt t.time u.time)) ≡ true → IsBefore t u
    go true e k = inl (ltb-true t.cell u.cell e)
    go false e k = inr (eqb-true t.cell u.cell (left-true (t.cell == u.cell) (nat_lt t.value u.value || t.value == u.value && nat_lt t.time u.time) k), third (nat_lt t.value u.value) refl (right-true (t.cell == u.cell) (nat_lt t.value u.value || t.value == u.value && nat_lt t.time u.time) k))

not-before : (t u : Tuple) → (IsBefore t u → ⊥) → not (is_before t u) ≡ true
not-before t u h = go (is_before t u) refl
  where
    go : (b : Bool) → is_before t u ≡ b → not b ≡ true
    go true e = absurd (h (is-before t u e))
    go false e = refl

before-not : (t u : Tuple) → not (is_before t u) ≡ true → IsBefore t u → ⊥
before-not t u h is = false≢true (ap not (sym (before-is t u is)) ∙ h)

equal-or-before : (t u : Tuple) → (t ≡ u) ⊎ (IsBefore t u ⊎ IsBefore u t)
equal-or-before t u = elim (cases_order t.cell u.cell) [
  | inl c ↦ elim (cases_order t.value u.value) [
    | inl v ↦ elim (cases_order t.time u.time) [
      | inl w ↦ inl (λ i. record { cell = c i; value = v i; time = w i })
      | inr (inl h) ↦ inr (inl (inr (c, inr (v, h))))
      | inr (inr h) ↦ inr (inr (inr (sym c, inr (sym v, h))))
    ]
    | inr (inl h) ↦ inr (inl (inr (c, inl h)))
    | inr (inr h) ↦ inr (inr (inr (sym c, inl h)))
  ]
  | inr (inl h) ↦ inr (inl (inl h))
  | inr (inr h) ↦ inr (inr (inl h))
]

-- ---- the least tuple that differs

differs-is : (xs ys : List Tuple) (t : Tuple) → count t xs ≢ count t ys → not (count t xs == count t ys) ≡ true
differs-is xs ys t h = go (count t xs == count t ys) refl
  where
    go : (b : Bool) → (count t xs == count t ys) ≡ b → not b ≡ true
    go true e = absurd (h (eqb-true (count t xs) (count t ys) e))
    go false e = refl

differs-not : (xs ys : List Tuple) (t : Tuple) → not (count t xs == count t ys) ≡ true → count t xs ≢ count t ys
differs-not xs ys t h same = false≢true (ap not (sym (eq-eqb (count t xs) (count t ys) same)) ∙ h)

-- a tuple whose counts differ stands in one of the lists
stands : (xs ys : List Tuple) (t : Tuple) → count t xs ≢ count t ys → In t (xs ++ ys)
stands xs ys t h = elim (cases_order (count t xs) (count t ys)) [
  | inl same ↦ absurd (h same)
  | inr (inl less) ↦ in-right t xs ys (count-in t ys (omega arith))
  | inr (inr more) ↦ in-left t xs ys (count-in t xs (omega arith))
]

in-differing : (xs ys : List Tuple) (t : Tuple) → count t xs ≢ count t ys → In t (differing xs ys)
in-differing xs ys t h = in-filter (λ u. not (count u xs == count u ys)) t (xs ++ ys) (stands xs ys t h) (differs-is xs ys t h)

pub least-is : (xs ys : List Tuple) (t : Tuple) → IsLeastDiffering xs ys t → least_differing xs ys ≡ Some t
unfolding least_differing
least-is xs ys t h =
    finds (λ u. list_all (λ v. not (is_before v u)) (differing xs ys)) t (differing xs ys) here (passes-all (λ v. not (is_before v t)) (differing xs ys) least) only
  where
    differs-in : (u : Tuple) → In u (differing xs ys) → count u xs ≢ count u ys
    differs-in u there = differs-not xs ys u (filter-passes (λ v. not (count v xs == count v ys)) u (xs ++ ys) there)

    here : In t (differing xs ys)
    here = in-differing xs ys t h.differs

    least : (u : Tuple) → In u (differing xs ys) → not (is_before u t) ≡ true
    least u there = not-before u t (λ before. differs-in u there (h.least u before))

    only : (u : Tuple) → In u (differing xs ys) → list_all (λ v. not (is_before v u)) (differing xs ys) ≡ true → u ≡ t
    only u there passes = elim (equal-or-before u t) [
      | inl same ↦ same
      | inr (inl before) ↦ absurd (differs-in u there (h.least u before))
      | inr (inr after) ↦ absurd (before-not t u (all-passes (λ v. not (is_before v u)) t (differing xs ys) passes here) after)
    ]

pub none-differs : (xs ys : List Tuple) → Same xs ys → least_differing xs ys ≡ None
unfolding least_differing
none-differs xs ys same =
    ap (λ ts. find (λ t. list_all (λ u. not (is_before u t)) ts) ts)
    (filter-none (λ t. not (count t xs == count t ys)) (xs ++ ys) (λ t. ap not (eq-eqb (count t xs) (count t ys) (same.counts t))))
