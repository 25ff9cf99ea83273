use Rattle.rv_reading.proofs.Lemmas.{state-tells-refusals, refusals-stay, states-wait}
use Rattle.rv_reading.proofs.reading.state_tells.Goals as goal

pub returns-clause-refusals : goal.returns-clause-refusals
returns-clause-refusals c = state-tells-refusals

pub returns-clause-stay : goal.returns-clause-stay
returns-clause-stay c = refusals-stay

pub returns-clause-waits : goal.returns-clause-waits
returns-clause-waits c = states-wait
