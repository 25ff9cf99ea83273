-- The tuples that are collected from a file.
use Rattle.std.specs.Prelude.{◌≡◌, ℕ, List, ◌++◌, map}
use Rattle.rv_base.specs.declared.record.TableEntry.{TableEntry}
use Rattle.rv_base.specs.declared.record.Tuple.{Tuple}
use Rattle.rv_spec.specs.Tuples.{Event, tuple_read, tuple_written, tuple_last, tuple_first}
use Rattle.rv_settle.specs.declared.tuples.Tuples.{Tuples}

-- These tuples more are read and written.
pub record Gains (old new : Tuples) (read written : List Tuple) : Type 0 where
  pub reads : new.reads.items ≡ old.reads.items ++ read
  pub writes : new.writes.items ≡ old.writes.items ++ written

-- the tuples of these events more
abbrev pub GainsEvents : Tuples → Tuples → List Event → Type 0
GainsEvents old new es = Gains old new (map tuple_read es) (map tuple_written es)

-- those of these entries of the table more
abbrev pub GainsEntries : (ℕ → ℕ) → Tuples → Tuples → List TableEntry → Type 0
GainsEntries initial old new es = Gains old new (map tuple_last es) (map (tuple_first initial) es)
