-- What asking a record that is held whole tells.
use Rattle.std.specs.Prelude.{◌≡◌, Result, Ok, Err, ⊤}
use Rattle.rv_plan.specs.Plan.{Outcome, refuses}
use Rattle.rv_plan.specs.declared.faults.Fault.{Fault}
use Rattle.rv_plan.specs.declared.faults.Fault.TheVariants.{Memory, Step}
use Rattle.rv_plan.specs.declared.told.Told.{Told}

-- An outcome is told with its status, or is that the file has no such step; or there is no memory for its text.
abbrev pub TellsAnswer : Outcome → Result Told Fault → Type 0
TellsAnswer o (Ok told) = (told.status ≡ o.status) × (told.text ≡ o.text)
TellsAnswer o (Err Memory) = ⊤
TellsAnswer o (Err (Step steps)) = o ≡ refuses (Step steps)
TellsAnswer o (Err _) = ⊥
