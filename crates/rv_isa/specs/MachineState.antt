-- What a machine keeps between steps.
use Rattle.std.specs.Prelude.{ℕ, List, Option}
use Rattle.rv_base.specs.declared.record.End.{End}
use Rattle.rv_isa.specs.HartState.{HartState}

-- A hart, the output of its steps, and how the run ended, if it did.
pub record MachineState : Type 0 where
  pub hart : HartState
  pub output : List ℕ
  pub ended : Option End
