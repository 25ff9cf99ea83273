use Rattle.rv_reading.proofs.Lemmas.{pieces-join, cuts-dont-matter}
use Rattle.rv_reading.proofs.reading.cuts_dont_matter.Goals as goal

pub returns-clause-pieces : goal.returns-clause-pieces
returns-clause-pieces c = pieces-join

pub returns-clause-outcome : goal.returns-clause-outcome
returns-clause-outcome c = cuts-dont-matter
