use Rattle.rv_pairs.specs.Covers.{with_tuples}
use Rattle.rv_judge.proofs.sums.Totals.add.Goals as goal

pub returns : goal.returns
unfolding with_tuples
returns g c = λ i. record { reads = c.add.ensures i; writes = c.add-2.ensures i }
