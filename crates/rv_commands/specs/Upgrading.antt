-- The upgrade of a record file, by what its calls answer.
use Rattle.std.specs.Prelude.{◌≡◌, ℕ, List, [], ◌∷◌, Result, IfOk}
use Rattle.rv_rules.specs.Verdict.{parse}
use Rattle.rv_host.specs.Views.{ShelfView}
use Rattle.rv_plan.specs.Plan.{answer}
use Rattle.rv_plan.specs.Endings.{IsWritten}
use Rattle.rv_plan.specs.FileCalls.{PerformsBehind}
use Rattle.rv_plan.specs.declared.faults.Fault.{Fault}
use Rattle.rv_plan.specs.declared.told.Told.{Told}
use Rattle.rv_upgrade.specs.Upgrade.{upgraded}
use Rattle.rv_commands.specs.CommandLine.{UpgradeWords}
use Rattle.rv_commands.specs.Headline.{HasUpgrade}
use Rattle.rv_commands.specs.Outcome.{renewed}

-- a file that was read is upgraded as the plan says, and success says that the upgraded file is written
pub record UpgradesFile (w : UpgradeWords) (file : List ℕ) (before after : ShelfView) (result : Result Told Fault) : Type 0 where
  pub performs : PerformsBehind (answer (renewed w file (parse file))) before after result
  pub upgrades : IfOk result (λ told. told.status ≡ 0 → HasUpgrade w file × IsWritten ((w.target, upgraded file) ∷ []) before after)
