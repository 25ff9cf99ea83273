use Rattle.std.proofs.Common.{◌≡◌, ◌+◌, [], arith}
use Rattle.rv_point.proofs.CourseLaws.{taken-none, skipped-more, skipped-some, some-of, none-of}
use Rattle.rv_point.proofs.course.Course.skip_steps.Goals as goal

pub loop-taken-init : goal.loop-taken-init
loop-taken-init c = record { skipped = taken-none c.args.self.now [] c.requires.at; going = c.requires.going }

pub take_step-requires-clause-number : goal.take_step-requires-clause-number
take_step-requires-clause-number c = omega (arith, c.loop-taken.invariant.skipped.steps)

pub returns-then-is_some-clause-ok : goal.returns-then-is_some-clause-ok
returns-then-is_some-clause-ok c =
    let some = some-of c.take_step.new.self.ended c.if-is_some.ensures in
    skipped-some c.args.self.now c.take_step.new.self (c.loop-taken.taken + 1) c.args.most
    (skipped-more c.args.self.now c.loop-taken.self c.take_step.new.self c.loop-taken.taken c.take_step.new.row c.loop-taken.invariant.skipped c.in_ok-take_step.ensures.ok) (omega arith) (λ none. absurd (let e = some.1 in cc))

pub loop-taken-preserved : goal.loop-taken-preserved
loop-taken-preserved c =
    record {
      skipped = skipped-more c.args.self.now c.loop-taken.self c.take_step.new.self c.loop-taken.taken c.take_step.new.row c.loop-taken.invariant.skipped c.in_ok-take_step.ensures.ok;
      going = none-of c.take_step.new.self.ended c.if-is_some.ensures;
    }

pub returns-clause-ok : goal.returns-clause-ok
returns-clause-ok c =
    let l = c.loop-taken.invariant in
    let all : c.loop-taken.taken ≡ c.args.most = omega (arith, c.loop-taken.auto.taken-end, c.loop-taken-test.false) in
    skipped-some c.args.self.now c.loop-taken.self c.loop-taken.taken c.args.most l.skipped (omega arith) (λ none. all)
