use Rattle.rv_spec.specs.Digest.{digest_lane}
use Rattle.rv_judge.proofs.sums.Totals.none.Goals as goal

pub returns : goal.returns
unfolding digest_lane
returns c = λ lanes. λ i. record { reads = c.new.ensures lanes i; writes = c.new-2.ensures lanes i }
