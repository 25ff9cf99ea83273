-- The trace of a run: a row for each step, in which each access knows when its cell was used last (after Blum et al. 1991), and the table of what the cells hold at the end. Rows and table are this project's own.
use Rattle.std.specs.Prelude.{ℕ, zero, suc, max, ◌&&◌, List, [], ◌∷◌, ◌++◌, map, filter, fold, find, option_map, unwrap_or, nat_lt, ◌==◌, if◌then◌else◌}
use Rattle.std.specs.List.{range_with_len}
use Rattle.rv_base.specs.declared.record.Access.{Access}
use Rattle.rv_base.specs.declared.record.TableEntry.{TableEntry}
use Rattle.rv_base.specs.declared.record.Tuple.{Tuple}
use Rattle.rv_spec.specs.Elf.{Image}
use Rattle.rv_spec.specs.Run.{run, next_state}
use Rattle.rv_spec.specs.Cells.{time_of}
use Rattle.rv_spec.specs.Visits.{Visit, visits}

-- A row of the trace: the place of the instruction, the place of the next one, and the accesses.
pub record Row : Type 0 where
  pub pc : ℕ
  pub next : ℕ
  pub accesses : List Access

-- what step number k leaves in the cells that it uses
abbrev pub tuples_left : ℕ → List Visit → List Tuple
tuples_left k vs = map (λ v. record { cell = v.cell; value = v.new; time = time_of k v.slot }) vs

-- all that the first n steps leave in cells, in order
unfoldable pub history : Image → List ℕ → ℕ → List Tuple
history i input zero = []
history i input (suc n) = history i input n ++ tuples_left n (visits input (run i input n))

-- the greatest of some numbers, or 0
abbrev pub greatest : List ℕ → ℕ
greatest xs = fold max 0 xs

-- the greatest time below a time at which a cell is used, or 0
unfoldable pub last_use : List Tuple → ℕ → ℕ → ℕ
last_use ts cell time = greatest (map (λ t. t.time) (filter (λ t. t.cell == cell && nat_lt t.time time) ts))

-- the access of a visit of step number k, with the time of the use before it
abbrev pub access : List Tuple → ℕ → Visit → Access
access before k v = record { slot = v.slot; cell = v.cell; old = v.old; prev = last_use before v.cell (time_of k v.slot); new = v.new }

-- row number k, counted from 0; where the step ends the run, the next instruction is the same
abbrev pub row : Image → List ℕ → ℕ → Row
row i input k =
    let s = run i input k in
    record {
      pc = s.pc;
      next = (next_state input s).pc;
      accesses = map (access (history i input (suc k)) k) (visits input s);
    }

-- n rows from row k on
abbrev pub rows : Image → List ℕ → ℕ → ℕ → List Row
rows i input k n = map (row i input) (range_with_len k n)

-- the numbers in rising order, each once
abbrev pub insert_rising : ℕ → List ℕ → List ℕ
insert_rising c [] = c ∷ []
insert_rising c (d ∷ ds) = if nat_lt c d then c ∷ d ∷ ds else (if c == d then d ∷ ds else d ∷ insert_rising c ds)

abbrev pub rising : List ℕ → List ℕ
rising [] = []
rising (c ∷ cs) = insert_rising c (rising cs)

-- the value that is left in a cell at a time
abbrev pub left_at : List Tuple → ℕ → ℕ → ℕ
left_at ts cell time = unwrap_or (option_map (λ t. t.value) (find (λ t. t.cell == cell && t.time == time) ts)) 0

-- the last use of a cell before a time
abbrev pub last_entry : List Tuple → ℕ → ℕ → TableEntry
last_entry ts time cell =
    let last = last_use ts cell time in
    record { cell = cell; value = left_at ts cell last; time = last }

-- the cells of all tuples, rising, each with what its last use before a time left, and when
unfoldable pub table_of : List Tuple → ℕ → List TableEntry
table_of ts time = map (last_entry ts time) (rising (map (λ t. t.cell) ts))

-- the table after the first n steps
unfoldable pub table : Image → List ℕ → ℕ → List TableEntry
table i input n = table_of (history i input n) (time_of n 0)
