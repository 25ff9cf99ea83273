use Rattle.rv_pipe.proofs.Machine.{each-once}
use Rattle.rv_pipe.proofs.laws.each_once_in_order.Goals as goal

pub returns : goal.returns
returns c = each-once
