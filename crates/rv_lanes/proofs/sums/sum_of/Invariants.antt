use Rattle.std.proofs.Common.{◌≡◌, ◌*◌, take}
use Rattle.rv_spec.specs.Digest.{digest, sha_lanes}
use Rattle.rv_lanes.proofs.sums.sum_of.Given as goal

abbrev pub invariant-loop-i : goal.invariant-loop-i
invariant-loop-i l = l.sum ≡ digest sha_lanes (take (2 * l.i) l.fn.tuples)
