use Rattle.rv_rules.proofs.Lemmas.{written-once}
use Rattle.rv_order.proofs.laws.written_once.Goals as goal

pub returns : goal.returns
returns c = written-once
