use Rattle.rv_book.proofs.BoardLaws.{each-was-drawn}
use Rattle.rv_book.proofs.machine.each_was_drawn.Goals as goal

pub returns : goal.returns
returns c = each-was-drawn
