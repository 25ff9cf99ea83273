use Rattle.std.proofs.Common.{rules}
use Rattle.std.proofs.lemmas.List.Sorted.{IsNonDecreasingBy-from_sort_by_key}
use Rattle.rv_book.specs.declared.task.Piece.{Piece}
use Rattle.rv_pipe.proofs.Sorting.{sorted-pieces}
use Rattle.rv_pipe.proofs.order.sort_pieces.Goals as goal

pub returns : goal.returns
returns c = λ piece n taken are numbered each. sorted-pieces piece numbered n taken _ _ c.sort_unstable_by_key.ensures.permutation (IsNonDecreasingBy-from_sort_by_key (λ (p : Piece). p.index) _ c.sort_unstable_by_key.ensures.sorted (λ a r q k. search rules)) are each
