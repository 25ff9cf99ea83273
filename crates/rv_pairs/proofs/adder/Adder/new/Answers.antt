use Rattle.rv_pairs.specs.Covers.{total}
use Rattle.rv_pairs.proofs.LaneSums.{no-tuples}
use Rattle.rv_pairs.proofs.adder.Adder.new.Goals as goal

pub returns : goal.returns
unfolding total
returns c = λ lanes. no-tuples lanes c.zero.result.lanes (c.zero.ensures.of_list lanes)
