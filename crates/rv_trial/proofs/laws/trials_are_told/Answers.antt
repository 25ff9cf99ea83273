use Rattle.rv_trial.proofs.AllTold.{trials-are-told}
use Rattle.rv_trial.proofs.laws.trials_are_told.Goals as goal

pub returns : goal.returns
returns c = trials-are-told
