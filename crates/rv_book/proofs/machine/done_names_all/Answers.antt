use Rattle.rv_book.proofs.BoardLaws.{done-names-all}
use Rattle.rv_book.proofs.machine.done_names_all.Goals as goal

pub returns : goal.returns
returns c = done-names-all
