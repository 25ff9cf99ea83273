use Rattle.std.proofs.Common.{◌≡◌, ◌+◌, ◌++◌, sym, ◌∙◌, subst, arith}
use Rattle.rv_spec.specs.Cells.{time_of}
use Rattle.rv_point.specs.Course.{first_finds}
use Rattle.rv_point.proofs.CourseLaws.{HasTaken, taken-none, taken-more, taken-all, taken-ended, some-of, none-of}
use Rattle.rv_point.proofs.course.Course.take_steps.Goals as goal

pub loop-taken-init : goal.loop-taken-init
loop-taken-init c = record { taken = taken-none c.args.self.now c.args.entries.now.items c.requires.at; going = c.requires.going }

pub take_step-requires-clause-number : goal.take_step-requires-clause-number
take_step-requires-clause-number c = omega (arith, c.loop-taken.invariant.taken.steps)

pub returns-then-is_some-clause-ok : goal.returns-then-is_some-clause-ok
returns-then-is_some-clause-ok c =
    let start = c.args.self.now in
    let before = c.args.entries.now.items in
    let some = some-of c.take_step.new.self.ended c.if-is_some.ensures in
    let more = taken-more start c.loop-taken.self c.take_step.new.self c.loop-taken.taken before c.loop-taken.entries.items c.take_step.new.row c.loop-taken.invariant.taken c.in_ok-take_step.ensures.ok in
    let listed : c.loop-taken.entries.items ++ first_finds (time_of start.steps 0) c.take_step.new.row.accesses.items ≡ c.list_firsts.new.entries.items =
    sym (c.in_ok-list_firsts.ensures ∙ (λ j. c.loop-taken.entries.items ++ first_finds (c.time_of-first.ensures j) (c.as_slice.ensures.value j))) in
    taken-ended start c.take_step.new.self c.loop-taken.taken c.args.most before c.list_firsts.new.entries.items some.0
    (subst (HasTaken start c.take_step.new.self (c.loop-taken.taken + 1) before) listed more) some.1 c.loop-taken-test.true

pub loop-taken-preserved : goal.loop-taken-preserved
loop-taken-preserved c =
    let start = c.args.self.now in
    let before = c.args.entries.now.items in
    let more = taken-more start c.loop-taken.self c.take_step.new.self c.loop-taken.taken before c.loop-taken.entries.items c.take_step.new.row c.loop-taken.invariant.taken c.in_ok-take_step.ensures.ok in
    let listed : c.loop-taken.entries.items ++ first_finds (time_of start.steps 0) c.take_step.new.row.accesses.items ≡ c.list_firsts.new.entries.items =
    sym (c.in_ok-list_firsts.ensures ∙ (λ j. c.loop-taken.entries.items ++ first_finds (c.time_of-first.ensures j) (c.as_slice.ensures.value j))) in
    record {
      taken = subst (HasTaken start c.take_step.new.self (c.loop-taken.taken + 1) before) listed more;
      going = none-of c.take_step.new.self.ended c.if-is_some.ensures;
    }

pub returns-clause-ok : goal.returns-clause-ok
returns-clause-ok c =
    let l = c.loop-taken.invariant in
    taken-all c.args.self.now c.loop-taken.self c.loop-taken.taken c.args.most c.args.entries.now.items c.loop-taken.entries.items l.taken l.going (omega (arith, c.loop-taken.auto.taken-end, c.loop-taken-test.false))
