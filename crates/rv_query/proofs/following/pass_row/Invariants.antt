use Rattle.std.proofs.Common.{map, take}
use Rattle.rv_query.specs.Following.{GoPast}
use Rattle.rv_query.proofs.following.pass_row.Given as goal

abbrev pub invariant-loop-access : goal.invariant-loop-access
invariant-loop-access l = GoPast l.first l.until l.fn.trails l.trails (map (λ a. record { step = l.step; access = a }) (take l.access-index l.accesses))
