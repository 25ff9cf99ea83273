use Rattle.rv_book.proofs.BoardLaws.{each-drawn-once}
use Rattle.rv_book.proofs.machine.each_drawn_once.Goals as goal

pub returns : goal.returns
returns c = each-drawn-once
