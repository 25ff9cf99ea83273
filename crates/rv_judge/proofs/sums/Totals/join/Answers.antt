use Rattle.rv_pairs.specs.Covers.{joined}
use Rattle.rv_judge.proofs.sums.Totals.join.Goals as goal

pub returns : goal.returns
unfolding joined
returns c = λ lanes. λ i. record { reads = c.join.ensures lanes i; writes = c.join-2.ensures lanes i }
