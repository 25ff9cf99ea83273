-- The order of tuples, and the least tuple at which two lists differ as multisets.
use Rattle.std.specs.Prelude.{◌≡◌, ◌≢◌, ◌<◌, List, [], ◌∷◌, ◌⊎◌, ⊤}
use Rattle.std.specs.List.{AllByRecursion}
use Rattle.rv_base.specs.declared.record.Tuple.{Tuple}
use Rattle.rv_spec.specs.Multiset.{count}

-- a tuple stands before another: by cell, then value, then time
abbrev pub IsBefore : Tuple → Tuple → Type 0
IsBefore t u = (t.cell < u.cell) ⊎ ((t.cell ≡ u.cell) × ((t.value < u.value) ⊎ ((t.value ≡ u.value) × (t.time < u.time))))

-- no tuple of the list stands before an earlier one
abbrev pub IsInOrder : List Tuple → Type 0
IsInOrder [] = ⊤
IsInOrder (t ∷ ts) = AllByRecursion (λ u. ¬ IsBefore u t) ts × IsInOrder ts

-- The tuple's counts in two lists differ, and no tuple before it has counts that do.
pub record IsLeastDiffering (xs ys : List Tuple) (t : Tuple) : Type 0 where
  pub differs : count t xs ≢ count t ys
  pub least : (u : Tuple) → IsBefore u t → count u xs ≡ count u ys
