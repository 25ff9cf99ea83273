use Rattle.rv_pairs.specs.Covers.{total, with_tuples}
use Rattle.rv_pairs.proofs.adder.Adder.total.Goals as goal

pub returns : goal.returns
unfolding total with_tuples
returns g c = c.add_tuples.ensures.sum
