use Rattle.rv_book.proofs.BoardSums.{each-added-once}
use Rattle.rv_book.proofs.machine.each_added_once.Goals as goal

pub returns : goal.returns
returns c = each-added-once
