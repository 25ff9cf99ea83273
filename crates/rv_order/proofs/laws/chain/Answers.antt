use Rattle.rv_rules.proofs.Lemmas.{chain}
use Rattle.rv_order.proofs.laws.chain.Goals as goal

pub returns : goal.returns
returns c = chain
