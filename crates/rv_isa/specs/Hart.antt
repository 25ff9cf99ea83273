-- What the calls of a hart give.
use Rattle.std.specs.Prelude.{◌≡◌, ℕ, ◌+◌, ◌≤◌, List, ◌++◌, map, take}
use Rattle.std.specs.Int.{w32, to_le_bytes}
use Rattle.rv_base.specs.declared.record.TableEntry.{TableEntry}
use Rattle.rv_base.specs.declared.record.Tuple.{Tuple}
use Rattle.rv_spec.specs.Words.{AreBytes}
use Rattle.rv_spec.specs.Elf.{Image}
use Rattle.rv_spec.specs.Step.{State, step}
use Rattle.rv_spec.specs.Run.{end_of, next_state, run}
use Rattle.rv_spec.specs.Visits.{visits}
use Rattle.rv_spec.specs.Trace.{Row as Traced, access, history, table, tuples_left}
use Rattle.rv_rules.specs.Agreement.{IsProgram}
use Rattle.rv_row.specs.declared.rows.Row.{Row}
use Rattle.rv_row.specs.RowReading.{row_view}
use Rattle.rv_mem.specs.Contents.{IsTable}
use Rattle.rv_isa.specs.declared.hart.Stepped.{Stepped}
use Rattle.rv_isa.specs.HartState.{HartState, StandsFor, IsTimed}

-- A step from a state that the hart stands for: how it ends the run, if it does, the bytes of input that it takes, and the bytes that it puts, which are the first ones of a word. The hart then stands for the next state; a step that ends the run stays.
pub record TakesStepFrom (input : List ℕ) (s : State) (m : Stepped) (h : HartState) : Type 0 where
  pub ends : m.end ≡ end_of (step input s)
  pub took : s.position + m.took ≡ (next_state input s).position
  pub most : m.put ≤ 4
  pub output : s.output ++ take m.put (to_le_bytes w32 m.word) ≡ (next_state input s).output
  pub stands : StandsFor h (next_state input s)

-- what step number k from a state leaves in cells, after all that was left before
abbrev pub left_after : List ℕ → State → List Tuple → ℕ → List Tuple
left_after input s before k = before ++ tuples_left k (visits input s)

-- the row of step number k from a state
abbrev pub row_from : List ℕ → State → List Tuple → ℕ → Traced
row_from input s before k = record { pc = s.pc; next = (next_state input s).pc; accesses = map (access (left_after input s before k) k) (visits input s) }

-- The step gives its row, and leaves its times in the cells that it uses, also where it ends the run.
pub record TakesTimes (input : List ℕ) (s : State) (before : List Tuple) (k : ℕ) (r : Row) (h : HartState) : Type 0 where
  pub row : row_view r ≡ row_from input s before k
  pub timed : IsTimed h (left_after input s before k) (k + 1)

-- The law of the table: the cells that a hart has used, after n steps of a run, are the table of the run. The step that ends a run counts: it leaves its times, and the state stays.
abbrev pub TouchedIsTable : Type 0
TouchedIsTable =
    (i : Image) (input : List ℕ) (n : ℕ) (h : HartState) (entries : List TableEntry) → IsProgram i → AreBytes input → StandsFor h (run i input n) → IsTimed h (history i input n) n
    → IsTable h.cells entries → entries ≡ table i input n
