use Rattle.std.proofs.Common.{◌≡◌, take}
use Rattle.rv_spec.specs.Digest.{digest}
use Rattle.rv_digest.proofs.lanes.Lanes.sum_of.Given as goal

abbrev pub invariant-loop-t : goal.invariant-loop-t
invariant-loop-t g l = l.sum ≡ digest g.Self.Lanes.lanes (take l.t-index l.tuples)
