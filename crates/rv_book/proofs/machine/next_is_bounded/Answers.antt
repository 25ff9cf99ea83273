use Rattle.rv_book.proofs.BoardLaws.{next-is-bounded}
use Rattle.rv_book.proofs.machine.next_is_bounded.Goals as goal

pub returns : goal.returns
returns c = next-is-bounded
