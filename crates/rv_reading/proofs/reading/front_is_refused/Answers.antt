use Rattle.rv_reading.proofs.Lemmas.{refused-at-front, front-stays-refused}
use Rattle.rv_reading.proofs.reading.front_is_refused.Goals as goal

pub returns-clause-whole : goal.returns-clause-whole
returns-clause-whole c = refused-at-front

pub returns-clause-stays : goal.returns-clause-stays
returns-clause-stays c = front-stays-refused
