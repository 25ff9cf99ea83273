use Rattle.std.proofs.Common.{arith}
use Rattle.std.proofs.lemmas.List.FromFn.{length-map-range_with_len}
use Rattle.rv_book.proofs.Entering.{few}
use Rattle.rv_book.proofs.book.Book.count.Goals as goal

pub overflow_cast-result : goal.overflow_cast-result
overflow_cast-result g c =
    let b = c.self.inside in
    let f = few _ _ _ _ _ c.self.invariant.0 in
    let n = length-map-range_with_len (g.T.Task.piece b.task.now) 0 b.shards in
    omega (arith, f, n, c.len.ensures, c.self.invariant.2, b.journal.ok.0)
