-- What a replay keeps: a state that is the run's in the cells that some rows use.
use Rattle.std.specs.Prelude.{◌≡◌, ◌+◌, ◌<◌, ◌≤◌, ℕ, Bool, false, ◌||◌, ◌==◌, List, [], ◌∷◌, length, map, filter}
use Rattle.rv_base.specs.declared.record.Tuple.{Tuple}
use Rattle.rv_spec.specs.Words.{AreBytes}
use Rattle.rv_spec.specs.Elf.{Image}
use Rattle.rv_spec.specs.Step.{State}
use Rattle.rv_spec.specs.Run.{run}
use Rattle.rv_spec.specs.Cells.{value}
use Rattle.rv_spec.specs.Trace.{history, row, rows}
use Rattle.rv_rules.specs.Agreement.{IsProgram}
use Rattle.rv_rules.specs.Membership.{In}
use Rattle.rv_row.specs.declared.rows.Row.{Row}
use Rattle.rv_row.specs.RowReading.{row_view}
use Rattle.rv_isa.specs.declared.hart.Stepped.{Stepped}
use Rattle.rv_isa.specs.Hart.{TakesStepFrom, TakesTimes}
use Rattle.rv_isa.specs.HartState.{HartState, StandsFor, IsTimed}
use Rattle.rv_isa.specs.Resumed.{HoldsListed}
use Rattle.rv_point.specs.Start.{cell_at, cells_of}

-- a number is in the list
abbrev pub among : List ℕ → ℕ → Bool
among [] c = false
among (d ∷ ds) c = d == c || among ds c

-- what was left before step number j in the cells that n rows from row k on use
abbrev pub known : Image → List ℕ → ℕ → ℕ → ℕ → List Tuple
known i input k n j = filter (λ t. among (cells_of (rows i input k n)) t.cell) (history i input j)

-- the state is that of the run before row k + m, in the cells that the n rows use
pub record IsAlike (i : Image) (input : List ℕ) (k n m : ℕ) (t : State) : Type 0 where
  pub pc : t.pc ≡ (run i input (k + m)).pc
  pub position : t.position ≡ (run i input (k + m)).position
  pub held : (c : ℕ) → In c (cells_of (rows i input k n)) → value t c ≡ value (run i input (k + m)) c

-- The hart replays these rows and made m of them: it stands for such a state, with the times of the last uses.
pub record IsReplaying (i : Image) (input : List ℕ) (k n m : ℕ) (h : HartState) : Type 0 where
  pub image : h.cells.image ≡ i
  pub input_is : h.input ≡ input
  pub state : State
  pub stands : StandsFor h state
  pub alike : IsAlike i input k n m state
  pub timed : IsTimed h (known i input k n (k + m)) (k + m)

-- A hart that goes on from the cells of a start replays the shard.
abbrev pub ReplaysBegin : Type 0
ReplaysBegin =
    (i : Image) (input : List ℕ) (k n : ℕ) (h : HartState) (t : State) → IsProgram i → AreBytes input → h.cells.image ≡ i → h.input ≡ input → h.pc ≡ (run i input k).pc → h.position ≡ (run i input k).position
    → HoldsListed h i (map (cell_at i input k) (cells_of (rows i input k n))) → StandsFor h t → IsReplaying i input k n 0 h

-- the step of a replay makes the row of the run, and puts as many bytes as the run's step
pub record MakesRow (i : Image) (input : List ℕ) (k n m : ℕ) (r : Row) (s : Stepped) (h : HartState) : Type 0 where
  pub is : row_view r ≡ row i input (k + m)
  pub replaying : IsReplaying i input k n (m + 1) h
  pub few : s.put ≤ 4
  pub put : length (run i input (k + m)).output + s.put ≡ length (run i input (k + (m + 1))).output

-- And each step of such a hart makes the next row.
abbrev pub ReplaysStep : Type 0
ReplaysStep =
    (i : Image) (input : List ℕ) (k n m : ℕ) (old new : HartState) (r : Row) (s : Stepped) → IsProgram i → AreBytes input → m < n → IsReplaying i input k n m old → new.cells.image ≡ old.cells.image → new.input ≡ old.input
    → ((t : State) → StandsFor old t → TakesStepFrom old.input t s new) → ((t : State) (before : List Tuple) → StandsFor old t → IsTimed old before (k + m) → TakesTimes old.input t before (k + m) r new)
    → MakesRow i input k n m r s new
