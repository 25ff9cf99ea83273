-- What memory checking rests on: the accesses of a file and its table as plain lists, and what it means that each access reads the last write to its cell.
use Rattle.std.specs.Prelude.{◌≡◌, ◌≢◌, ℕ, ◌<◌, ◌≤◌, ◌&&◌, Bool, List, [], ◌∷◌, map, count_by, ◌==◌, if◌then◌else◌, ⊤}
use Rattle.std.specs.List.{AllByRecursion}
use Rattle.rv_base.specs.declared.record.TableEntry.{TableEntry}
use Rattle.rv_base.specs.declared.record.Tuple.{Tuple}
use Rattle.rv_spec.specs.Trace.{last_use, left_at, table_of}
use Rattle.rv_spec.specs.Tuples.{Event, tuple_written}
use Rattle.rv_spec.specs.Grammar.{IsRising}

-- no two numbers of the list are equal
abbrev pub AllDiffer : List ℕ → Type 0
AllDiffer [] = ⊤
AllDiffer (x ∷ xs) = AllByRecursion (λ y. x ≢ y) xs × AllDiffer xs

-- The conditions on accesses and a table: no two accesses have one own time, and all times are below a bound; each access reads an earlier time; the times of the table are not 0; its cells rise.
pub record AreOrdered (es : List Event) (table : List TableEntry) (bound : ℕ) : Type 0 where
  pub differ : AllDiffer (map (λ e. e.time) es)
  pub earlier : AllByRecursion (λ e. e.prev < e.time) es
  pub below : AllByRecursion (λ e. e.time < bound) es
  pub after_start : AllByRecursion (λ t. 0 < t.time) table
  pub rising : IsRising (map (λ t. t.cell) table)

-- the tuple stands at a cell and a time
abbrev pub at : ℕ → ℕ → Tuple → Bool
at c t w = w.cell == c && w.time == t

-- no two tuples that are written have one cell and one time
abbrev pub WrittenOnce : List Tuple → Type 0
WrittenOnce ws = (c t : ℕ) → count_by (at c t) ws ≤ 1

-- what a cell holds before a time: what the last use left, or its initial value
abbrev pub value_before : (ℕ → ℕ) → List Tuple → ℕ → ℕ → ℕ
value_before initial ts cell time =
    let last = last_use ts cell time in
    if last == 0 then initial cell else left_at ts cell last

-- Each access reads the time and the value of the last use of its cell, and the table holds the last use of each cell.
pub record IsChain (initial : ℕ → ℕ) (es : List Event) (table : List TableEntry) (bound : ℕ) : Type 0 where
  pub times : AllByRecursion (λ e. e.prev ≡ last_use (map tuple_written es) e.cell e.time) es
  pub values : AllByRecursion (λ e. e.old ≡ value_before initial (map tuple_written es) e.cell e.time) es
  pub last : table ≡ table_of (map tuple_written es) bound
