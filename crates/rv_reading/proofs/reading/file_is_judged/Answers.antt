use Rattle.rv_reading.proofs.Lemmas.{judged-is-read, verdict-is-told}
use Rattle.rv_reading.proofs.reading.file_is_judged.Goals as goal

pub returns-clause-found : goal.returns-clause-found
returns-clause-found c = judged-is-read

pub returns-clause-verdict : goal.returns-clause-verdict
returns-clause-verdict c = verdict-is-told
