use Rattle.rv_pairs.specs.Covers.{total}
use Rattle.rv_pairs.proofs.LaneSums.{no-tuples}
use Rattle.rv_pairs.proofs.adder.Adder.clear.Goals as goal

pub returns : goal.returns
unfolding total
returns c = λ lanes. no-tuples lanes c.zero-self.result.lanes (c.zero-self.ensures.of_list lanes)
