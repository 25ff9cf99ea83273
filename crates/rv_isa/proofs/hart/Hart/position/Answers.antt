use Rattle.std.proofs.Common.{◌≤◌, length, subst}
use Rattle.rv_isa.specs.HartState.{HartState}
use Rattle.rv_isa.specs.HartView.{hart_view}
use Rattle.rv_isa.proofs.HartLaws.{hart-within}
use Rattle.rv_isa.proofs.hart.Hart.position.Goals as goal

pub returns-clause-within : goal.returns-clause-within
returns-clause-within c = subst (λ (h : HartState). c.self.inside.position ≤ length h.input) c.self.view_is (hart-within (hart_view c.self.inside) c.self.invariant)
