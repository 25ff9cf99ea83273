use Rattle.rv_book.proofs.BoardSums.{done-adds-all}
use Rattle.rv_book.proofs.machine.done_adds_all.Goals as goal

pub returns : goal.returns
returns c = done-adds-all
