-- The accesses of a file, and the last of a cell before a step (this project's own). It asks nothing of their times, which in a file that isn't accepted may be in any order.
use Rattle.std.specs.Prelude.{ℕ, ◌+◌, ◌&&◌, not, List, [], ◌∷◌, ◌++◌, map, reverse, filter, find, Option, nat_lt, ◌==◌}
use Rattle.rv_base.specs.LittleEndian.{time_of}
use Rattle.rv_base.specs.declared.record.Access.{Access}
use Rattle.rv_spec.specs.Trace.{Row, greatest}

-- An access with the step that its row is of: the row's number in the whole file, from 0.
pub record Numbered : Type 0 where
  pub step : ℕ
  pub access : Access

abbrev pub own_time : Numbered → ℕ
own_time a = time_of a.step a.access.slot

-- the accesses of rows, the first of which is of step k, in the order of the file
abbrev pub numbered : ℕ → List Row → List Numbered
numbered k [] = []
numbered k (r ∷ rs) = map (λ a. record { step = k; access = a }) r.accesses ++ numbered (k + 1) rs

-- those to a cell with a time before that of a step
abbrev pub accesses_before : List Numbered → ℕ → ℕ → List Numbered
accesses_before xs cell step = filter (λ a. a.access.cell == cell && nat_lt (own_time a) (time_of step 0)) xs

-- the one with the greatest time, if there is one; of several, the last
unfoldable pub latest : List Numbered → Option Numbered
latest xs = find (λ a. own_time a == greatest (map own_time xs)) (reverse xs)

-- the last access to a cell before a step
abbrev pub last_access : List Numbered → ℕ → ℕ → Option Numbered
last_access xs cell step = latest (accesses_before xs cell step)

-- the last that left another value than it found
abbrev pub last_change : List Numbered → ℕ → ℕ → Option Numbered
last_change xs cell step = latest (filter (λ a. not (a.access.new == a.access.old)) (accesses_before xs cell step))
