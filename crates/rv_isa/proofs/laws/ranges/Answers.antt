use Rattle.rv_isa.proofs.RunRanges.{runs-fit}
use Rattle.rv_isa.proofs.laws.ranges.Goals as goal

pub returns : goal.returns
returns c = runs-fit
