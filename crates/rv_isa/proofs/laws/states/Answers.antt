use Rattle.rv_isa.proofs.States.{runs-are-states}
use Rattle.rv_isa.proofs.laws.states.Goals as goal

pub returns : goal.returns
returns c = runs-are-states
