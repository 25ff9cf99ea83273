-- The tuples that accesses read and write. Offline memory checking, after Blum et al. 1991: memory is consistent where all that is read and all that is written are one multiset.
use Rattle.std.specs.Prelude.{ℕ, ◌+◌, List, [], ◌∷◌, ◌++◌, map}
use Rattle.rv_base.specs.declared.record.Access.{Access}
use Rattle.rv_base.specs.declared.record.TableEntry.{TableEntry}
use Rattle.rv_base.specs.declared.record.Tuple.{Tuple}
use Rattle.rv_spec.specs.Cells.{time_of}
use Rattle.rv_spec.specs.Trace.{Row}

-- An access with its own time.
pub record Event : Type 0 where
  pub cell : ℕ
  pub old : ℕ
  pub prev : ℕ
  pub new : ℕ
  pub time : ℕ

abbrev pub event : ℕ → Access → Event
event step a = record { cell = a.cell; old = a.old; prev = a.prev; new = a.new; time = time_of step a.slot }

-- the accesses of rows that begin with step k
abbrev pub events : ℕ → List Row → List Event
events k [] = []
events k (r ∷ rs) = map (event k) r.accesses ++ events (k + 1) rs

-- an access reads the old value at the time of the access before it, and writes the new value at its own time
abbrev pub tuple_read : Event → Tuple
tuple_read e = record { cell = e.cell; value = e.old; time = e.prev }

abbrev pub tuple_written : Event → Tuple
tuple_written e = record { cell = e.cell; value = e.new; time = e.time }

-- at the end each cell of the table is read with its last value and time
abbrev pub tuple_last : TableEntry → Tuple
tuple_last t = record { cell = t.cell; value = t.value; time = t.time }

-- before the first step each cell of the table is written with its initial value, at time 0
abbrev pub tuple_first : (ℕ → ℕ) → TableEntry → Tuple
tuple_first initial t = record { cell = t.cell; value = initial t.cell; time = 0 }

-- all that accesses and a table read, and all that they write over the initial values
abbrev pub all_read : List Event → List TableEntry → List Tuple
all_read es table = map tuple_read es ++ map tuple_last table

abbrev pub all_written : (ℕ → ℕ) → List Event → List TableEntry → List Tuple
all_written initial es table = map tuple_written es ++ map (tuple_first initial) table
