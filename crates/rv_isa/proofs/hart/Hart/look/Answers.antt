use Rattle.std.proofs.Common.{sym, subst}
use Rattle.rv_isa.specs.HartState.{HartState, StandsFor}
use Rattle.rv_isa.specs.HartView.{hart_view}
use Rattle.rv_isa.specs.Look.{TellsStep}
use Rattle.rv_isa.specs.declared.look.Look.{Look}
use Rattle.rv_isa.proofs.HartLaws.{hart-within, given, look-tells}
use Rattle.rv_isa.proofs.hart.Hart.look.Goals as goal

pub make-look-requires-clause-within : goal.make-look-requires-clause-within
make-look-requires-clause-within c = hart-within (hart_view c.self.inside) c.self.invariant

pub returns-clause-tells : goal.returns-clause-tells
returns-clause-tells c s shows =
    let h : HartState = hart_view c.self.inside in
    let l : Look = record { touches = c.make-look.new.touches; outcome = c.make-look.result } in
    let here : StandsFor h s = subst (λ (k : HartState). StandsFor k s) (sym c.self.view_is) shows in
    let sees = c.find-found.ensures.sees h.input s here.ranges here.cells (sym here.version) (sym here.pc) in
    let gives = given h c.find-found.result.seen l _ c.requires.none (c.make-look.ensures h.cells.image.version c.find-found.ensures.decoded) in
    subst (λ (k : HartState). TellsStep k.input s l) c.self.view_is (look-tells h c.find-found.result.seen l gives s here sees)
