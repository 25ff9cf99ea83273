use Rattle.std.proofs.Common.{◌≡◌, None}
use Rattle.rv_point.proofs.CourseLaws.{HasSkipped}
use Rattle.rv_point.proofs.course.Course.skip_steps.Given as goal

abbrev pub invariant-loop-taken : goal.invariant-loop-taken
invariant-loop-taken l = record {
  skipped : HasSkipped l.fn.self l.self l.taken;
  going : l.self.ended ≡ None;
}
