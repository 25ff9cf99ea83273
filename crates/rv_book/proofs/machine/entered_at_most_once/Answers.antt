use Rattle.rv_book.proofs.BoardLaws.{entered-at-most-once}
use Rattle.rv_book.proofs.machine.entered_at_most_once.Goals as goal

pub returns : goal.returns
returns c = entered-at-most-once
