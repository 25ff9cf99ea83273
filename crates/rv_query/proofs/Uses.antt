-- The latest of some accesses is one of them.
use Rattle.std.proofs.Common.{◌≡◌, Bool, true, false, cond, List, [], ◌∷◌, reverse, find, filter, Some, refl, sym, ap, subst, ◌∙◌, inl, inr}
use Rattle.std.proofs.lemmas.List.{reverse-append}
use Rattle.rv_rules.specs.Membership.{In}
use Rattle.rv_rules.proofs.Lemmas.{in-append}
use Rattle.rv_query.specs.Accesses.{Numbered, latest}

-- what is found stands in the list
found-in : (test : Numbered → Bool) (xs : List Numbered) (a : Numbered) → find test xs ≡ Some a → In a xs
found-in test [] a e = absurd cc
found-in test (x ∷ xs) a e = go (test x) refl e (λ k. found-in test xs a k)
  where
    go : (b : Bool) → test x ≡ b → cond b (Some x) (find test xs) ≡ Some a → (find test xs ≡ Some a → In a xs) → In a (x ∷ xs)
    go true f e rest = inl (let same : x ≡ a = cc in sym same)
    go false f e rest = inr (rest e)

reversed-in : (xs : List Numbered) (a : Numbered) → In a (reverse xs) → In a xs
reversed-in [] a m = m
reversed-in (x ∷ xs) a m = elim (in-append a (reverse xs) (x ∷ []) (subst (λ l. In a l) (reverse-append (x ∷ []) xs) m)) [
  | inl k ↦ inr (reversed-in xs a k)
  | inr k ↦ elim k [ inl same ↦ inl same | inr z ↦ absurd z ]
]

pub latest-in : (xs : List Numbered) (a : Numbered) → latest xs ≡ Some a → In a xs
unfolding latest
latest-in xs a e = reversed-in xs a (found-in _ (reverse xs) a e)

-- a member that passes a test is a member, and passes it
pub of-filter : (test : Numbered → Bool) (a : Numbered) (xs : List Numbered) → In a (filter test xs) → In a xs × (test a ≡ true)
of-filter test a [] m = absurd m
of-filter test a (x ∷ xs) m = go (test x) refl m (λ k. of-filter test a xs k)
  where
    go : (b : Bool) → test x ≡ b → In a (cond b (x ∷ filter test xs) (filter test xs)) → (In a (filter test xs) → In a xs × (test a ≡ true)) → In a (x ∷ xs) × (test a ≡ true)
    go true e (inl same) rest = (inl same, ap test same ∙ e)
    go true e (inr k) rest = (inr (rest k).0, (rest k).1)
    go false e k rest = (inr (rest k).0, (rest k).1)
