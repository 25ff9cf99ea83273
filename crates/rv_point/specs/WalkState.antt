-- What a walk shows.
use Rattle.std.specs.Prelude.{ℕ, List, Option}
use Rattle.rv_base.specs.declared.record.End.{End}
use Rattle.rv_spec.specs.Elf.{Image}
use Rattle.rv_point.specs.declared.fault.RunFault.{RunFault}

-- The run of a program on an input, in shards of a size, within a budget of steps: how many starts were given, the end of the run where it was reached, and the error that is answered from now on.
pub record WalkState : Type 0 where
  pub image : Image
  pub input : List ℕ
  pub size : ℕ
  pub budget : ℕ
  pub given : ℕ
  pub ended : Option End
  pub fault : Option RunFault
