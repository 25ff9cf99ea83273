use Rattle.rv_isa.specs.HartView.{hart_view}
use Rattle.rv_isa.proofs.HartLaws.{hart-aligned}
use Rattle.rv_isa.proofs.hart.Hart.pc.Goals as goal

pub returns-clause-aligned : goal.returns-clause-aligned
returns-clause-aligned c = hart-aligned (hart_view c.self.inside) c.self.invariant
