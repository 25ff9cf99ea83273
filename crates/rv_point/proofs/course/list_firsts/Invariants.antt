use Rattle.std.proofs.Common.{◌≡◌, ◌++◌, take}
use Rattle.rv_point.specs.Course.{first_finds}
use Rattle.rv_point.proofs.course.list_firsts.Given as goal

abbrev pub invariant-loop-access : goal.invariant-loop-access
invariant-loop-access l = l.entries.items ≡ l.initial.entries.items ++ first_finds l.time (take l.access-index l.accesses)
