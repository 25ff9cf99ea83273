use Rattle.rv_point.proofs.SharedSteps.{shared-steps-are-same}
use Rattle.rv_point.proofs.laws.shared_steps.Goals as goal

pub returns : goal.returns
returns c = shared-steps-are-same
