use Rattle.std.proofs.Common.{◌≡◌, refl, ◌∙◌, subst, arith}
use Rattle.rv_spec.specs.Step.{step}
use Rattle.rv_spec.specs.Run.{run}
use Rattle.rv_isa.specs.declared.machine.Turn.TheVariants.{Ends}
use Rattle.rv_isa.specs.Machine.{TakesStep}
use Rattle.rv_isa.proofs.MachineLaws.{next-of, ends-of, goes-more, ran-is}
use Rattle.rv_isa.proofs.machine.Machine.run.Goals as goal

pub loop-done-init : goal.loop-done-init
unfolding run
loop-done-init c = record { image = refl; input = refl; going = c.requires.fresh.0; shows = c.requires.fresh.1; goes = λ k below. absurd (omega arith) }

pub loop-done-preserved : goal.loop-done-preserved
loop-done-preserved c =
    let l = c.loop-done.invariant in
    let i = c.args.self.hart.cells.image in
    let input = c.args.self.hart.input in
    let s = run i input c.loop-done.done in
    let takes = subst (λ bytes. TakesStep (step bytes s) s c.in-Ok-Next.field-0 c.step.new.self) l.input (c.in-Ok-Next.ensures.ok s l.shows l.going) in
    let next = next-of i input c.loop-done.done c.in-Ok-Next.field-0 c.step.new.self takes c.in-Ok-Next.field-0-is in
    record {
      image = c.step.ensures.image ∙ l.image;
      input = c.step.ensures.input ∙ l.input;
      going = next.0;
      shows = next.1;
      goes = goes-more i input c.loop-done.done l.goes next.2;
    }

pub returns-in-Ok-Ends-clause-ok : goal.returns-in-Ok-Ends-clause-ok
returns-in-Ok-Ends-clause-ok c =
    let l = c.loop-done.invariant in
    let i = c.args.self.hart.cells.image in
    let input = c.args.self.hart.input in
    let s = run i input c.loop-done.done in
    let takes = subst (λ bytes. TakesStep (step bytes s) s c.in-Ok-Ends.field-0 c.step.new.self) l.input (c.in-Ok-Ends.ensures.ok s l.shows l.going) in
    let turn : c.in-Ok-Ends.field-0 ≡ Ends c.in-Ok-Ends.end = cc in
    ran-is i input c.args.budget c.loop-done.done c.step.new.self c.in-Ok-Ends.end c.ran.result c.loop-done-test.true l.goes
    (ends-of i input c.loop-done.done c.in-Ok-Ends.field-0 c.step.new.self c.in-Ok-Ends.end takes turn) c.ran.ensures
