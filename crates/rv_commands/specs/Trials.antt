-- How a trial ends: it reads and writes no file, and each generated program ends within the budget.
use Rattle.std.specs.Prelude.{◌≡◌, ◌⊎◌, ℕ, Option, Some, ⊤}
use Rattle.rv_host.specs.Counts.{Rose}
use Rattle.rv_host.specs.Views.{SinkView}
use Rattle.rv_commands.specs.CommandLine.{CommandWords, trial}

-- A trial succeeds, or its line couldn't be printed, or there is no memory.
abbrev pub TrialEnds : Option CommandWords → SinkView → SinkView → ℕ → Type 0
TrialEnds (Some (trial w)) before after answer = (answer ≡ 0) ⊎ ((answer ≡ 6) × Rose before.faults after.faults) ⊎ (answer ≡ 7)
TrialEnds _ before after answer = ⊤
