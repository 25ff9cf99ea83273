-- Two states that share what a step uses make the same step.
use Rattle.std.specs.Prelude.{◌≡◌, ℕ, ◌≤◌, List, ◌++◌, length}
use Rattle.std.specs.List.{AllByRecursion}
use Rattle.rv_spec.specs.Step.{State, step}
use Rattle.rv_spec.specs.Run.{end_of, next_state}
use Rattle.rv_spec.specs.Cells.{value}
use Rattle.rv_spec.specs.Visits.{Use, step_uses, visits}
use Rattle.rv_rules.specs.Agreement.{IsState}

-- the states have one version, counter and position, and hold equal values in the cells that are used
pub record Share (s t : State) (us : List Use) : Type 0 where
  pub version : t.version ≡ s.version
  pub pc : t.pc ≡ s.pc
  pub position : t.position ≡ s.position
  pub held : AllByRecursion (λ u. value t u.cell ≡ value s u.cell) us

-- the step is the same: its uses, what it finds and leaves there, how it ends, where it goes on, and the bytes that it puts
pub record IsSameStep (input : List ℕ) (s t : State) : Type 0 where
  pub uses : step_uses input t ≡ step_uses input s
  pub visits : visits input t ≡ visits input s
  pub end : end_of (step input t) ≡ end_of (step input s)
  pub pc : (next_state input t).pc ≡ (next_state input s).pc
  pub position : (next_state input t).position ≡ (next_state input s).position
  pub bytes : List ℕ
  pub put : (next_state input s).output ≡ s.output ++ bytes
  pub same_put : (next_state input t).output ≡ t.output ++ bytes

-- the law, of states with the ranges of a run
abbrev pub SharedStepsAreSame : Type 0
SharedStepsAreSame = (input : List ℕ) (s t : State) → IsState s → IsState t → s.position ≤ length input → Share s t (step_uses input s) → IsSameStep input s t
