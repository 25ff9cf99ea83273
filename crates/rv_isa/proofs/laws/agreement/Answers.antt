use Rattle.rv_isa.proofs.Agreement.{steps-agree}
use Rattle.rv_isa.proofs.ExpectedCovers.{seen-follows}
use Rattle.rv_isa.proofs.laws.agreement.Goals as goal

pub returns-clause-own : goal.returns-clause-own
returns-clause-own c = steps-agree

pub returns-clause-seen : goal.returns-clause-seen
returns-clause-seen c = seen-follows
