-- The last use of a cell before a time is one of its uses, and none of them is later.
use Rattle.std.proofs.Common.{◌≡◌, ◌⊎◌, ℕ, ◌<◌, ◌≤◌, max, Bool, true, false, cond, ◌&&◌, ◌==◌, nat_lt, List, [], ◌∷◌, map, filter, fold, refl, sym, ◌∙◌, ap, subst, inl, inr, arith}
use Rattle.std.proofs.lemmas.Bool.{cases_lt, and_from, eqb-true, eq-eqb, lt-ltb, ltb-true}
use Rattle.rv_base.specs.declared.record.Tuple.{Tuple}
use Rattle.rv_spec.specs.Trace.{last_use}
use Rattle.rv_rules.proofs.Lemmas.{left-true, right-true, in-map, in-map-back}
use Rattle.rv_rules.specs.Membership.{In}

fold-start : (a : ℕ) (xs : List ℕ) → a ≤ fold max a xs
fold-start a [] = omega arith
fold-start a (x ∷ xs) = omega (arith, fold-start (max a x) xs)

fold-most : (a x : ℕ) (xs : List ℕ) → In x xs → x ≤ fold max a xs
fold-most a x [] m = absurd m
fold-most a x (y ∷ ys) (inl e) = omega (arith, fold-start (max a y) ys)
fold-most a x (y ∷ ys) (inr m) = fold-most (max a y) x ys m

fold-in : (a : ℕ) (xs : List ℕ) → (fold max a xs ≡ a) ⊎ In (fold max a xs) xs
fold-in a [] = inl refl
fold-in a (x ∷ xs) = elim (fold-in (max a x) xs) [
  | inl e ↦ elim (cases_lt a x) [ inl h ↦ inr (inl (omega (arith, e))) | inr h ↦ inl (omega (arith, e)) ]
  | inr m ↦ inr (inr m)
]

in-filter : {A : Type 0} (p : A → Bool) (x : A) (xs : List A) → In x xs → p x ≡ true → In x (filter p xs)
in-filter p x [] m h = absurd m
in-filter p x (y ∷ ys) (inl e) h = subst (λ b. In x (cond b (y ∷ filter p ys) (filter p ys))) (sym h ∙ ap p e) (inl e)
in-filter p x (y ∷ ys) (inr m) h = elim (p y) as (λ b. In x (cond b (y ∷ filter p ys) (filter p ys))) [ true ↦ inr (in-filter p x ys m h) | false ↦ in-filter p x ys m h ]

in-filter-back : {A : Type 0} (p : A → Bool) (x : A) (xs : List A) → In x (filter p xs) → In x xs × (p x ≡ true)
in-filter-back p x [] m = absurd m
in-filter-back p x (y ∷ ys) m = go (p y) refl (in-filter-back p x ys) m
  where
    go : (b : Bool) → p y ≡ b → (In x (filter p ys) → In x ys × (p x ≡ true)) → In x (cond b (y ∷ filter p ys) (filter p ys)) → In x (y ∷ ys) × (p x ≡ true)
    go true e rest (inl s) = (inl s, ap p s ∙ e)
    go true e rest (inr m) = (inr (rest m).0, (rest m).1)
    go false e rest m = (inr (rest m).0, (rest m).1)

is_before : ℕ → ℕ → Tuple → Bool
is_before c t w = w.cell == c && nat_lt w.time t

-- no use of the cell before the time is later
pub last_use-most : (ts : List Tuple) (c t : ℕ) (w : Tuple) → In w ts → w.cell ≡ c → w.time < t → w.time ≤ last_use ts c t
unfolding last_use is_before
last_use-most ts c t w m cell early =
    let passes : is_before c t w ≡ true = and_from (w.cell == c) (nat_lt w.time t) (eq-eqb w.cell c cell) (lt-ltb w.time t early) in
    fold-most 0 w.time (map (λ w. w.time) (filter (is_before c t) ts)) (in-map (λ w. w.time) w (filter (is_before c t) ts) (in-filter (is_before c t) w ts m passes))

-- it is one of the uses, or there is none
pub last_use-in : (ts : List Tuple) (c t : ℕ) → (last_use ts c t ≡ 0) ⊎ ((w : Tuple) × In w ts × (w.cell ≡ c) × (w.time ≡ last_use ts c t) × (w.time < t))
unfolding last_use is_before
last_use-in ts c t = elim (fold-in 0 (map (λ w. w.time) (filter (is_before c t) ts))) [
  | inl none ↦ inl none
  | inr m ↦
      let used = in-map-back (λ w. w.time) (last_use ts c t) (filter (is_before c t) ts) m in
      let w : Tuple = used.0 in
      let back = in-filter-back (is_before c t) w ts used.1 in
      inr (w, back.0, eqb-true w.cell c (left-true (w.cell == c) (nat_lt w.time t) back.1), sym used.2, ltb-true w.time t (right-true (w.cell == c) (nat_lt w.time t) back.1))
]

-- it is before the time
pub last_use-lt : (ts : List Tuple) (c t : ℕ) → 0 < t → last_use ts c t < t
last_use-lt ts c t h = elim (last_use-in ts c t) [
  | inl none ↦ omega (arith, none)
  | inr some ↦ omega (arith, some.3, some.4)
]
