use Rattle.std.proofs.Common.{arith}
use Rattle.rv_rules.proofs.Lemmas.{bytes-are}
use Rattle.rv_row.specs.RowReading.{found_in}
use Rattle.rv_row.proofs.RowAnswers.{is-spelled, is-only}
use Rattle.rv_row.proofs.reading.read_row_into.Goals as goal

pub returns-clause-spelled : goal.returns-clause-spelled
returns-clause-spelled c = is-spelled c.args.bytes.now (found_in c.front_row.new.row c.front_row.result) (bytes-are c.args.bytes.now (λ i. omega (arith, c.type_inv.bytes i))) c.front_row.ensures.exact

pub returns-clause-only : goal.returns-clause-only
returns-clause-only c = is-only c.args.bytes.now (found_in c.front_row.new.row c.front_row.result) c.front_row.ensures.exact
