use Rattle.std.proofs.Common.{◌≡◌, ℕ, ◌+◌, ◌<◌, ◌≤◌, List, [], length, refl, sym, ◌∙◌, ap, subst, arith, IsTrue}
use Rattle.std.specs.List.{AllByRecursion}
use Rattle.rv_base.specs.declared.record.Access.{Access}
use Rattle.rv_base.specs.declared.record.Touch.{Touch}
use Rattle.rv_spec.specs.Step.{State}
use Rattle.rv_spec.specs.Run.{next_state}
use Rattle.rv_spec.specs.Cells.{is_cell}
use Rattle.rv_spec.specs.Trace.{Row}
use Rattle.rv_mem.specs.Contents.{value_at, time_at}
use Rattle.rv_mem.specs.Accesses.{accesses_of}
use Rattle.rv_mem.specs.Left.{IsLeft}
use Rattle.rv_isa.specs.declared.look.Look.{Look}
use Rattle.rv_isa.specs.HartState.{HartState, StandsFor, IsTimed, StandsForSome}
use Rattle.rv_isa.specs.HartView.{hart_view}
use Rattle.rv_isa.specs.Hart.{TakesTimes}
use Rattle.rv_isa.specs.Look.{TellsStep}
use Rattle.rv_isa.proofs.HartLaws.{Leads, touches-are-cells, touches-are-slots, took-within, next-stands, next-sound, next-timed, row-is}
use Rattle.rv_isa.proofs.hart.Hart.step.Goals as goal

abbrev Tells : HartState → Look → Type 0
Tells h l = (s : State) → StandsFor h s → TellsStep h.input s l

here : (h k : HartState) (l : Look) → Tells k l → h ≡ k → Tells h l
here h k l tells same = subst (λ (n : HartState). Tells n l) (sym same) tells

pub access-requires-clause-cells : goal.access-requires-clause-cells
access-requires-clause-cells c =
    let h : HartState = hart_view c.self.inside in
    let l : Look = c.look.new.look in
    subst (λ (ts : List Touch). AllByRecursion (λ x. IsTrue (is_cell 2 x.cell)) ts) (sym c.as_slice-touches.ensures.value) (touches-are-cells h l (here h c.args.self.now l c.look.ensures.tells c.self.view_is) c.self.invariant)

pub access-requires-clause-slots : goal.access-requires-clause-slots
access-requires-clause-slots c =
    let h : HartState = hart_view c.self.inside in
    let l : Look = c.look.new.look in
    subst (λ (ts : List Touch). AllByRecursion (λ x. 0 < x.slot) ts) (sym c.as_slice-touches.ensures.value) (touches-are-slots h l (here h c.args.self.now l c.look.ensures.tells c.self.view_is) c.self.invariant)

pub invariant_of-self : goal.invariant_of-self
invariant_of-self c = subst (λ m. StandsForSome (record { cells = m; input = c.self.inside.input.now; pc = c.self.inside.pc; position = c.self.inside.position })) (sym c.in_err-access.ensures.err) c.self.invariant

pub overflow_add-self : goal.overflow_add-self
overflow_add-self c =
    let h : HartState = hart_view c.self.inside in
    let l : Look = c.look.new.look in
    let within : h.position + l.outcome.took ≤ length h.input = took-within h l (here h c.args.self.now l c.look.ensures.tells c.self.view_is) c.self.invariant.bytes c.self.invariant in
    omega (arith, within, c.from.ensures)

-- the hart after the step
abbrev next : goal.After-result-1 → HartState
next c = record { cells = c.access.new.self; input = c.self.inside.input.now; pc = c.look.new.look.outcome.next; position = c.self.inside.position + c.from.result }

tells-of : (c : goal.After-result-1) → Tells (hart_view c.self.inside) c.look.new.look
tells-of c = here (hart_view c.self.inside) c.args.self.now c.look.new.look c.look.ensures.tells c.self.view_is

leads-of : (c : goal.After-result-1) → Leads (hart_view c.self.inside) c.look.new.look (tells-of c) c.self.invariant.bytes (next c) c.args.number
leads-of c = record {
  input = refl;
  pc = refl;
  position = ap (λ n. c.self.inside.position + n) c.from.ensures;
  left = subst (λ (ts : List Touch). IsLeft c.self.inside.cells c.access.new.self c.args.number ts) c.as_slice-touches.ensures.value c.in_ok-access.ensures.ok;
}

pub invariant_of-self-2 : goal.invariant_of-self-2
invariant_of-self-2 c = next-sound (hart_view c.self.inside) c.look.new.look (tells-of c) c.self.invariant.bytes c.self.invariant (next c) c.args.number (leads-of c)

pub returns-clause-ok : goal.returns-clause-ok
returns-clause-ok c s shows =
    let h : HartState = hart_view c.self.inside in
    let own : StandsFor h s = subst (λ (n : HartState). StandsFor n s) (sym c.self.view_is) shows in
    let tells : TellsStep c.args.self.now.input s c.look.new.look = c.look.ensures.tells s shows in
    record {
      ends = tells.ends;
      took = tells.took;
      most = tells.most;
      output = tells.output;
      stands = subst (λ (n : HartState). StandsFor (next c) (next_state n.input s)) c.self.view_is (next-stands h c.look.new.look (tells-of c) c.self.invariant.bytes (next c) c.args.number (leads-of c) s own);
    }

pub returns-clause-times : goal.returns-clause-times
returns-clause-times c s before shows timed =
    let h : HartState = hart_view c.self.inside in
    let l : Look = c.look.new.look in
    let k = c.args.number in
    let own : StandsFor h s = subst (λ (n : HartState). StandsFor n s) (sym c.self.view_is) shows in
    let own-timed : IsTimed h before k = subst (λ (n : HartState). IsTimed n before k) (sym c.self.view_is) timed in
    let made : c.access.new.accesses.items ≡ accesses_of (value_at h.cells) (time_at h.cells) k [] l.touches.list.items =
    c.in_ok-access.ensures.accesses ∙ ap (accesses_of (value_at h.cells) (time_at h.cells) k []) c.as_slice-touches.ensures.value in
    subst (λ (n : HartState). TakesTimes n.input s before k (record { pc = h.pc; next = l.outcome.next; accesses = c.access.new.accesses }) (next c)) c.self.view_is
    (record {
      row = λ i. to-row (own.pc i) ((tells-of c s own).next i) ((made ∙ row-is h l (tells-of c) k s before own own-timed) i);
      timed = next-timed h l (tells-of c) c.self.invariant.bytes (next c) k (leads-of c) s before own own-timed;
    })
  where
    to-row : ℕ → ℕ → List Access → Row
    to-row pc next accesses = record { pc = pc; next = next; accesses = accesses }
