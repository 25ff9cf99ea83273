-- The accesses of a step, from its touches and what the cells held before it.
use Rattle.std.specs.Prelude.{ℕ, List, [], ◌∷◌, ◌++◌}
use Rattle.rv_base.specs.declared.record.Access.{Access}
use Rattle.rv_base.specs.declared.record.Touch.{Touch}
use Rattle.rv_mem.specs.Left.{value_after, time_after}

-- the access of a touch of step number k, after earlier touches of the step, where the cells held these values, at these times, before it
abbrev pub access_of : (ℕ → ℕ) → (ℕ → ℕ) → ℕ → List Touch → Touch → Access
access_of values times k earlier t = record { slot = t.slot; cell = t.cell; old = value_after earlier t.cell (values t.cell); prev = time_after k earlier t.cell (times t.cell); new = t.new }

abbrev pub accesses_of : (ℕ → ℕ) → (ℕ → ℕ) → ℕ → List Touch → List Touch → List Access
accesses_of values times k earlier [] = []
accesses_of values times k earlier (t ∷ ts) = access_of values times k earlier t ∷ accesses_of values times k (earlier ++ t ∷ []) ts
