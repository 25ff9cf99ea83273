-- Two lists of tuples are one multiset, or they aren't.
use Rattle.std.proofs.Common.{◌≡◌, ◌⊎◌, Bool, true, false, ◌==◌, List, [], ◌∷◌, ◌++◌, refl, sym, ◌∙◌, inl, inr, arith, eq-zero-or-pos}
use Rattle.std.specs.List.{AllByRecursion}
use Rattle.std.proofs.lemmas.Bool.{eqb-true, eqb-false}
use Rattle.rv_base.specs.declared.record.Tuple.{Tuple}
use Rattle.rv_spec.specs.Multiset.{Same, count}
use Rattle.rv_rules.proofs.Lemmas.{count-in, in-left, in-right, all-in}

counted : (xs ys zs : List Tuple) → AllByRecursion (λ t. count t xs ≡ count t ys) zs ⊎ ((t : Tuple) × (¬ (count t xs ≡ count t ys)))
counted xs ys [] = inl tt
counted xs ys (z ∷ zs) = go (count z xs == count z ys) refl (counted xs ys zs)
  where
    go : (b : Bool) → (count z xs == count z ys) ≡ b → AllByRecursion (λ t. count t xs ≡ count t ys) zs ⊎ ((t : Tuple) × (¬ (count t xs ≡ count t ys)))
        → AllByRecursion (λ t. count t xs ≡ count t ys) (z ∷ zs) ⊎ ((t : Tuple) × (¬ (count t xs ≡ count t ys)))
    go true e (inl rest) = inl (eqb-true (count z xs) (count z ys) e, rest)
    go true e (inr t) = inr t
    go false e rest = inr (z, eqb-false (count z xs) (count z ys) e)

-- the counts of the members of both decide it
pub same-or-differ : (xs ys : List Tuple) → Same xs ys ⊎ (¬ (Same xs ys))
same-or-differ xs ys = elim (counted xs ys (xs ++ ys)) [
  | inl all ↦ inl (record { counts = λ t. same t all })
  | inr other ↦ inr (λ s. other.1 (s.counts other.0))
]
  where
    same : (t : Tuple) → AllByRecursion (λ t. count t xs ≡ count t ys) (xs ++ ys) → count t xs ≡ count t ys
    same t all = elim (eq-zero-or-pos (count t xs)) [
      | inr some ↦ all-in (λ t. count t xs ≡ count t ys) (xs ++ ys) all t (in-left t xs ys (count-in t xs (omega (arith, some))))
      | inl none ↦ elim (eq-zero-or-pos (count t ys)) [
        | inl zero ↦ none ∙ sym zero
        | inr some ↦ all-in (λ t. count t xs ≡ count t ys) (xs ++ ys) all t (in-right t xs ys (count-in t ys (omega (arith, some))))
      ]
    ]
