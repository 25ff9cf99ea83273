use Rattle.std.proofs.Common.{◌≡◌, None}
use Rattle.rv_point.proofs.CourseLaws.{HasTaken}
use Rattle.rv_point.proofs.course.Course.take_steps.Given as goal

abbrev pub invariant-loop-taken : goal.invariant-loop-taken
invariant-loop-taken l = record {
  taken : HasTaken l.fn.self l.self l.taken l.fn.entries.items l.entries.items;
  going : l.self.ended ≡ None;
}
