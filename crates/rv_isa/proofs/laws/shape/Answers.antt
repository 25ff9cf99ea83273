use Rattle.rv_isa.proofs.ExpectedShape.{expected-shaped}
use Rattle.rv_isa.proofs.laws.shape.Goals as goal

pub returns : goal.returns
returns c = expected-shaped
