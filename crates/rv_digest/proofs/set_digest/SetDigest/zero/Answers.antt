use Rattle.std.proofs.Common.{refl}
use Rattle.rv_spec.specs.Digest.{digest_lane}
use Rattle.rv_digest.proofs.set_digest.SetDigest.zero.Goals as goal

pub returns-clause-of_list : goal.returns-clause-of_list
unfolding digest_lane
returns-clause-of_list c = λ lanes. refl
