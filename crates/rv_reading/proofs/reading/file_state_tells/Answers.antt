use Rattle.rv_reading.proofs.Lemmas.{state-tells-file, file-stays-refused, file-state-waits}
use Rattle.rv_reading.proofs.reading.file_state_tells.Goals as goal

pub returns-clause-refusals : goal.returns-clause-refusals
returns-clause-refusals c = state-tells-file

pub returns-clause-stay : goal.returns-clause-stay
returns-clause-stay c = file-stays-refused

pub returns-clause-waits : goal.returns-clause-waits
returns-clause-waits c = file-state-waits
