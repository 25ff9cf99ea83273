-- Members of lists, and rising lists.
use Rattle.std.proofs.Common.{◌≡◌, ◌⊎◌, ℕ, ◌<◌, ◌≤◌, Bool, true, false, cond, ◌==◌, nat_lt, List, [], ◌∷◌, ◌++◌, map, refl, sym, ◌∙◌, subst, inl, inr, arith}
use Rattle.std.specs.List.{AllByRecursion}
use Rattle.std.proofs.lemmas.Bool.{eqb-true, eqb-false, ltb-true, ltb-false}
use Rattle.rv_spec.specs.Grammar.{IsRising}
use Rattle.rv_spec.specs.Trace.{rising, insert_rising}
use Rattle.rv_rules.specs.Membership.{In}

module _ {A : Type 0} where
  pub in-append : (x : A) (xs ys : List A) → In x (xs ++ ys) → In x xs ⊎ In x ys
  in-append x [] ys h = inr h
  in-append x (z ∷ zs) ys (inl e) = inl (inl e)
  in-append x (z ∷ zs) ys (inr h) = elim (in-append x zs ys h) [ inl left ↦ inl (inr left) | inr right ↦ inr right ]

  pub in-left : (x : A) (xs ys : List A) → In x xs → In x (xs ++ ys)
  in-left x [] ys h = absurd h
  in-left x (z ∷ zs) ys (inl e) = inl e
  in-left x (z ∷ zs) ys (inr h) = inr (in-left x zs ys h)

  pub in-right : (x : A) (xs ys : List A) → In x ys → In x (xs ++ ys)
  in-right x [] ys h = h
  in-right x (z ∷ zs) ys h = inr (in-right x zs ys h)

  pub in-map-back : {B : Type 0} (f : A → B) (y : B) (xs : List A) → In y (map f xs) → (x : A) × In x xs × (y ≡ f x)
  in-map-back f y [] h = absurd h
  in-map-back f y (x ∷ xs) (inl e) = (x, inl refl, e)
  in-map-back f y (x ∷ xs) (inr h) = let r = in-map-back f y xs h in (r.0, inr r.1, r.2)

  pub all-in : (P : A → Type 0) (xs : List A) → AllByRecursion P xs → (x : A) → In x xs → P x
  all-in P [] h x m = absurd m
  all-in P (y ∷ ys) h x (inl e) = subst P (sym e) h.0
  all-in P (y ∷ ys) h x (inr m) = all-in P ys h.1 x m

  pub all-of : (P : A → Type 0) (xs : List A) → ((x : A) → In x xs → P x) → AllByRecursion P xs
  all-of P [] h = tt
  all-of P (x ∷ xs) h = (h x (inl refl), all-of P xs (λ y m. h y (inr m)))

-- a member of a rising list is its first, or greater
first-least : (x : ℕ) (xs : List ℕ) → IsRising (x ∷ xs) → (c : ℕ) → In c (x ∷ xs) → x ≤ c
first-least x xs r c (inl e) = omega arith
first-least x xs r c (inr m) = let less = all-in (λ y. x < y) xs r.0 c m in omega arith

not-first : (x c : ℕ) (xs : List ℕ) → x < c → In c (x ∷ xs) → In c xs
not-first x c xs h (inl e) = absurd (omega arith)
not-first x c xs h (inr m) = m

-- rising lists with the same members are equal
pub same-rising : (xs ys : List ℕ) → IsRising xs → IsRising ys → ((c : ℕ) → In c xs → In c ys) → ((c : ℕ) → In c ys → In c xs) → xs ≡ ys
same-rising [] [] rx ry to back = refl
same-rising [] (y ∷ ys) rx ry to back = absurd (back y (inl refl))
same-rising (x ∷ xs) [] rx ry to back = absurd (to x (inl refl))
same-rising (x ∷ xs) (y ∷ ys) rx ry to back =
    let low : y ≤ x = first-least y ys ry x (to x (inl refl)) in
    let high : x ≤ y = first-least x xs rx y (back y (inl refl)) in
    let first : x ≡ y = omega arith in
    let rest : xs ≡ ys = same-rising xs ys rx.1 ry.1
    (λ c m. let less : x < c = all-in (λ z. x < z) xs rx.0 c m in not-first y c ys (omega arith) (to c (inr m)))
    (λ c m. let less : y < c = all-in (λ z. y < z) ys ry.0 c m in not-first x c xs (omega arith) (back c (inr m))) in
    λ i. first i ∷ rest i

-- ---- `rising` gives a rising list of the same numbers

pub insert-in : (c d : ℕ) (ds : List ℕ) → In c (d ∷ ds) → In c (insert_rising d ds)
insert-in c d [] m = m
insert-in c d (x ∷ xs) m = go (nat_lt d x) (d == x) refl m (insert-in c d xs)
  where
    go : (a b : Bool) → (d == x) ≡ b → In c (d ∷ x ∷ xs) → (In c (d ∷ xs) → In c (insert_rising d xs)) → In c (cond a (d ∷ x ∷ xs) (cond b (x ∷ xs) (x ∷ insert_rising d xs)))
    go true b e m rest = m
    go false true e (inl same) rest = inl (same ∙ eqb-true d x e)
    go false true e (inr m) rest = m
    go false false e (inl same) rest = inr (rest (inl same))
    go false false e (inr (inl same)) rest = inl same
    go false false e (inr (inr m)) rest = inr (rest (inr m))

pub in-insert : (c d : ℕ) (ds : List ℕ) → In c (insert_rising d ds) → In c (d ∷ ds)
in-insert c d [] m = m
in-insert c d (x ∷ xs) m = go (nat_lt d x) (d == x) m (in-insert c d xs)
  where
    later : In c (d ∷ xs) → In c (d ∷ x ∷ xs)
    later (inl e) = inl e
    later (inr m) = inr (inr m)

    go : (a b : Bool) → In c (cond a (d ∷ x ∷ xs) (cond b (x ∷ xs) (x ∷ insert_rising d xs))) → (In c (insert_rising d xs) → In c (d ∷ xs)) → In c (d ∷ x ∷ xs)
    go true b m rest = m
    go false true m rest = inr m
    go false false (inl e) rest = inr (inl e)
    go false false (inr m) rest = later (rest m)

pub rising-in : (c : ℕ) (cs : List ℕ) → In c cs → In c (rising cs)
rising-in c [] m = m
rising-in c (d ∷ ds) (inl e) = insert-in c d (rising ds) (inl e)
rising-in c (d ∷ ds) (inr m) = insert-in c d (rising ds) (inr (rising-in c ds m))

pub in-rising : (c : ℕ) (cs : List ℕ) → In c (rising cs) → In c cs
in-rising c [] m = m
in-rising c (d ∷ ds) m = elim (in-insert c d (rising ds) m) [ inl e ↦ inl e | inr h ↦ inr (in-rising c ds h) ]

insert-rises : (d : ℕ) (ds : List ℕ) → IsRising ds → IsRising (insert_rising d ds)
insert-rises d [] r = (tt, tt)
insert-rises d (x ∷ xs) r = go (nat_lt d x) (d == x) refl refl (insert-rises d xs r.1)
  where
    above : d < x → AllByRecursion (λ y. d < y) (x ∷ xs)
    above h = all-of (λ y. d < y) (x ∷ xs) (λ y m. let least = first-least x xs r y m in omega arith)

    inserted : x < d → AllByRecursion (λ y. x < y) (insert_rising d xs)
    inserted h = all-of (λ y. x < y) (insert_rising d xs) (λ y m. elim (in-insert y d xs m) [ inl e ↦ omega arith | inr k ↦ all-in (λ z. x < z) xs r.0 y k ])

    go : (a b : Bool) → nat_lt d x ≡ a → (d == x) ≡ b → IsRising (insert_rising d xs) → IsRising (cond a (d ∷ x ∷ xs) (cond b (x ∷ xs) (x ∷ insert_rising d xs)))
    go true b e f rest = (above (ltb-true d x e), r)
    go false true e f rest = r
    go false false e f rest = (inserted (omega (arith, ltb-false d x e, eqb-false d x f)), rest)

pub rising-rises : (cs : List ℕ) → IsRising (rising cs)
rising-rises [] = tt
rising-rises (c ∷ cs) = insert-rises c (rising cs) (rising-rises cs)
