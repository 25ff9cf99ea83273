use Rattle.std.proofs.Common.{◌≡◌, sym, ◌∙◌, ap}
use Rattle.std.specs.Int.{div_ceil}
use Rattle.rv_point.proofs.CourseLaws.{some-of, none-of}
use Rattle.rv_point.proofs.StartLaws.{none-left, more-needed}
use Rattle.rv_point.proofs.course.Course.needed.Goals as goal

pub returns-then-is_none-clause-err : goal.returns-then-is_none-clause-err
returns-then-is_none-clause-err c =
    none-left c.args.self.now c.skip_steps.new.self c.args.size c.args.budget c.requires.begun c.requires.going c.in_ok-skip_steps.ensures.ok (none-of c.skip_steps.new.self.ended (sym c.if-is_none.ensures))

pub returns-clause-ok : goal.returns-clause-ok
returns-clause-ok c =
    let some = some-of c.skip_steps.new.self.ended (sym c.if-is_none.ensures) in
    let count : c.div_ceil.result ≡ div_ceil c.skip_steps.new.self.steps c.args.size = c.div_ceil.ensures ∙ ap (div_ceil c.skip_steps.new.self.steps) c.from.ensures in
    more-needed c.args.self.now c.skip_steps.new.self c.args.size c.args.budget c.requires.begun c.requires.going c.in_ok-skip_steps.ensures.ok some.0 c.div_ceil.result some.1 count
