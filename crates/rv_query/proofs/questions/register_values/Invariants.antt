use Rattle.std.proofs.Common.{◌==◌, get_or, if◌then◌else◌}
use Rattle.rv_query.proofs.Trails.{no_trail}
use Rattle.rv_query.proofs.Filled.{IsFilled}
use Rattle.rv_query.proofs.questions.register_values.Given as goal

abbrev pub invariant-loop-r : goal.invariant-loop-r
invariant-loop-r l = IsFilled (λ r. if r == 0 then 0 else (get_or l.trails r no_trail).value) 0 32 l.r l.values
