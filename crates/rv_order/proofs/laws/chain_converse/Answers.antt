use Rattle.rv_order.proofs.Converse.{ordered, same}
use Rattle.rv_order.proofs.laws.chain_converse.Goals as goal

pub returns-clause-ordered : goal.returns-clause-ordered
returns-clause-ordered c = ordered

pub returns-clause-same : goal.returns-clause-same
returns-clause-same c = same
