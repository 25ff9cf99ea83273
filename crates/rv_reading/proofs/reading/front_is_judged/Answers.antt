use Rattle.rv_reading.proofs.Lemmas.{front-is-judged, verdict-behind-front}
use Rattle.rv_reading.proofs.reading.front_is_judged.Goals as goal

pub returns-clause-found : goal.returns-clause-found
returns-clause-found c = front-is-judged

pub returns-clause-verdict : goal.returns-clause-verdict
returns-clause-verdict c = verdict-behind-front
