use Rattle.rv_claim.proofs.Histories.{each-kind}
use Rattle.rv_claim.proofs.laws.steps_are_events.Goals as goal

pub returns : goal.returns
returns c = each-kind
