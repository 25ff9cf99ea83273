use Rattle.rv_rules.proofs.Lemmas.{digest-same}
use Rattle.rv_order.proofs.laws.equal_digests.Goals as goal

pub returns : goal.returns
returns c = digest-same
