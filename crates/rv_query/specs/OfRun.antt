-- The answers on a file that is accepted: they are of the run.
use Rattle.std.specs.Prelude.{◌≡◌, ◌⊎◌, ℕ, ◌<◌, List, Option, Some, None}
use Rattle.rv_base.specs.declared.record.End.{End}
use Rattle.rv_base.specs.declared.record.Verdict.TheVariants.{Accept}
use Rattle.rv_spec.specs.Words.{AreBytes}
use Rattle.rv_spec.specs.Elf.{first_fault}
use Rattle.rv_spec.specs.Run.{run}
use Rattle.rv_spec.specs.Cells.{value}
use Rattle.rv_spec.specs.Trace.{rows}
use Rattle.rv_spec.specs.Digest.{Lanes}
use Rattle.rv_spec.specs.Record.{Parts}
use Rattle.rv_spec.specs.Grammar.{Spells}
use Rattle.rv_spec.specs.Conclusion.{IsCollision}
use Rattle.rv_rules.specs.Verdict.{verdict}
use Rattle.rv_query.specs.Questions.{cell_seen, image_of, cell_answer, state_answer, snapshot}
use Rattle.rv_query.specs.declared.questions.CellSeen.{CellSeen}
use Rattle.rv_query.specs.declared.questions.Snapshot.{Snapshot}

-- the verdict accepts the file, which is the spelling of these parts
pub record Accepts (lanes : Lanes) (elf input file : List ℕ) (p : Parts) : Type 0 where
  pub bytes : AreBytes file
  pub spells : Spells p file
  pub steps : ℕ
  pub shards : ℕ
  pub end : End
  pub accepted : verdict lanes elf input file ≡ Accept steps shards end

-- What the run holds in a cell before a step, with the time of the cell's last use and the step of its last change in the trace of n steps.
abbrev pub cell_of_run : List ℕ → List ℕ → Parts → ℕ → ℕ → CellSeen
cell_of_run elf input p cell step =
    let i = image_of elf p in
    record (cell_seen i (rows i input 0 p.header.steps) cell step) { value = value (run i input step) cell }

-- The answer on a step of an accepted file is that of the run, or the file is a collision of the digest.
abbrev pub StateIsOfRun : List ℕ → List ℕ → Parts → ℕ → Option Snapshot → Type 0
StateIsOfRun elf input p step answer =
    (lanes : Lanes) (file : List ℕ) → Accepts lanes elf input file p
    → (step < p.header.steps → answer ≡ Some (snapshot (run (image_of elf p) input step))) ⊎ IsCollision lanes elf file

abbrev pub CellIsOfRun : List ℕ → List ℕ → Parts → ℕ → ℕ → Option CellSeen → Type 0
CellIsOfRun elf input p cell step answer =
    (lanes : Lanes) (file : List ℕ) → Accepts lanes elf input file p
    → (step < p.header.steps → answer ≡ Some (cell_of_run elf input p cell step)) ⊎ IsCollision lanes elf file

-- the law, of each program without a fault
abbrev pub StatesAreOfRun : Type 0
StatesAreOfRun = (elf input : List ℕ) (p : Parts) (step : ℕ) → first_fault elf ≡ None → AreBytes elf → AreBytes input → StateIsOfRun elf input p step (state_answer elf p step)

abbrev pub CellsAreOfRun : Type 0
CellsAreOfRun = (elf input : List ℕ) (p : Parts) (cell step : ℕ) → first_fault elf ≡ None → AreBytes elf → AreBytes input → CellIsOfRun elf input p cell step (cell_answer elf p cell step)
