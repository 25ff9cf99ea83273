use Rattle.rv_row.proofs.RowAnswers.{is-one}
use Rattle.rv_row.proofs.reading.one_row.Goals as goal

pub returns : goal.returns
returns c = is-one
