use Rattle.std.proofs.Common.{◌+◌, ◌<◌, ◌≤◌, List, length, refl, sym, ap, subst, arith, IsTrue}
use Rattle.std.specs.List.{AllByRecursion}
use Rattle.rv_base.specs.declared.record.Touch.{Touch}
use Rattle.rv_spec.specs.Step.{State}
use Rattle.rv_spec.specs.Run.{next_state}
use Rattle.rv_spec.specs.Cells.{is_cell}
use Rattle.rv_mem.specs.Left.{IsLeft}
use Rattle.rv_isa.specs.declared.look.Look.{Look}
use Rattle.rv_isa.specs.HartState.{HartState, StandsFor, StandsForSome}
use Rattle.rv_isa.specs.HartView.{hart_view}
use Rattle.rv_isa.specs.Look.{TellsStep}
use Rattle.rv_isa.proofs.HartLaws.{Leads, touches-are-cells, touches-are-slots, took-within, next-stands, next-sound}
use Rattle.rv_isa.proofs.hart.Hart.carry_out.Goals as goal

abbrev Tells : HartState → Look → Type 0
Tells h l = (s : State) → StandsFor h s → TellsStep h.input s l

pub leave-requires-clause-cells : goal.leave-requires-clause-cells
leave-requires-clause-cells c =
    let h : HartState = hart_view c.self.inside in
    let tells : Tells h c.args.look.now = subst (λ (k : HartState). Tells k c.args.look.now) (sym c.self.view_is) c.requires in
    subst (λ (ts : List Touch). AllByRecursion (λ x. IsTrue (is_cell 2 x.cell)) ts) (sym c.as_slice.ensures.value) (touches-are-cells h c.args.look.now tells c.self.invariant)

pub leave-requires-clause-slots : goal.leave-requires-clause-slots
leave-requires-clause-slots c =
    let h : HartState = hart_view c.self.inside in
    let tells : Tells h c.args.look.now = subst (λ (k : HartState). Tells k c.args.look.now) (sym c.self.view_is) c.requires in
    subst (λ (ts : List Touch). AllByRecursion (λ x. 0 < x.slot) ts) (sym c.as_slice.ensures.value) (touches-are-slots h c.args.look.now tells c.self.invariant)

pub invariant_of-self : goal.invariant_of-self
invariant_of-self c = subst (λ m. StandsForSome (record { cells = m; input = c.self.inside.input.now; pc = c.self.inside.pc; position = c.self.inside.position })) (sym c.in_err-leave.ensures.err) c.self.invariant

pub overflow_add-self : goal.overflow_add-self
overflow_add-self c =
    let h : HartState = hart_view c.self.inside in
    let tells : Tells h c.args.look.now = subst (λ (k : HartState). Tells k c.args.look.now) (sym c.self.view_is) c.requires in
    let within : h.position + c.args.look.now.outcome.took ≤ length h.input = took-within h c.args.look.now tells c.self.invariant.bytes c.self.invariant in
    omega (arith, within, c.from.ensures)

-- the hart after the step
abbrev next : goal.After-self-2-1 → HartState
next c = record { cells = c.leave.new.self; input = c.self.inside.input.now; pc = c.args.look.now.outcome.next; position = c.self.inside.position + c.from.result }

tells-of : (c : goal.After-self-2-1) → Tells (hart_view c.self.inside) c.args.look.now
tells-of c = subst (λ (k : HartState). Tells k c.args.look.now) (sym c.self.view_is) c.requires

leads-of : (c : goal.After-self-2-1) → Leads (hart_view c.self.inside) c.args.look.now (tells-of c) c.self.invariant.bytes (next c) 0
leads-of c = record {
  input = refl;
  pc = refl;
  position = ap (λ n. c.self.inside.position + n) c.from.ensures;
  left = subst (λ (ts : List Touch). IsLeft c.self.inside.cells c.leave.new.self 0 ts) c.as_slice.ensures.value c.in_ok-leave.ensures.ok;
}

pub invariant_of-self-2 : goal.invariant_of-self-2
invariant_of-self-2 c = next-sound (hart_view c.self.inside) c.args.look.now (tells-of c) c.self.invariant.bytes c.self.invariant (next c) 0 (leads-of c)

pub returns-clause-ok : goal.returns-clause-ok
returns-clause-ok c =
    subst (λ (k : HartState). (s : State) → StandsFor k s → StandsFor (next c) (next_state k.input s)) c.self.view_is
    (next-stands (hart_view c.self.inside) c.args.look.now (tells-of c) c.self.invariant.bytes (next c) 0 (leads-of c))
