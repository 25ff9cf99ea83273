-- The machine, and the states that it stands for.
use Rattle.std.specs.Prelude.{◌≡◌, ℕ, ◌≤◌, List, Some, None}
use Rattle.rv_spec.specs.Elf.{Image}
use Rattle.rv_spec.specs.Step as spec
use Rattle.rv_spec.specs.Step.{State, start}
use Rattle.rv_spec.specs.Run.{run, EndsIn}
use Rattle.rv_isa.specs.declared.machine.Turn.{Turn}
use Rattle.rv_isa.specs.declared.machine.Turn.TheVariants.{Next, Ends}
use Rattle.rv_isa.specs.declared.machine.Ran.{Ran}
use Rattle.rv_isa.specs.HartState.{StandsFor}
use Rattle.rv_isa.specs.MachineState.{MachineState}

-- The machine stands for a state: its hart does, and it has the state's output.
pub record Represents (m : MachineState) (s : State) : Type 0 where
  pub hart : StandsFor m.hart s
  pub output : m.output ≡ s.output

-- a machine that has taken no step: it has not ended, and stands for the state before the first one
abbrev pub IsFresh : MachineState → Type 0
IsFresh m = (m.ended ≡ None) × Represents m (start m.hart.cells.image)

-- A turn is that of the definition. The machine stands for the state that it leads to, or stays at the state whose step ends the run.
abbrev pub TakesStep : spec.Transition → State → Turn → MachineState → Type 0
TakesStep (spec.Next t) s turn m = (turn ≡ Next) × (m.ended ≡ None) × Represents m t
TakesStep (spec.Ends e) s turn m = (turn ≡ Ends e) × (m.ended ≡ Some e) × Represents m s

-- What a run within a budget is: the number of its steps, its end, the input bytes that it took and the output.
pub record IsRunOf (i : Image) (input : List ℕ) (budget : ℕ) (r : Ran) : Type 0 where
  pub ends : EndsIn i input r.steps r.end
  pub within : r.steps ≤ budget
  pub consumed : r.consumed ≡ (run i input r.steps).position
  pub output : r.output ≡ (run i input r.steps).output
