use Rattle.std.proofs.Common.{◌≡◌, ◌<◌, ℕ, ap, ◌∙◌, sym, arith}
use Rattle.std.specs.Prelude.{Some, slice_get}
use Rattle.std.specs.List.{range_with_len}
use Rattle.rv_book.specs.declared.task.Piece.{Piece}
use Rattle.rv_book.specs.Journal.{BookState, indices, pieces_of}
use Rattle.rv_book.proofs.Lemmas.{piece-below, whole}
use Rattle.rv_team.proofs.OneWorker.{alone-more, indices-alone, journal-at}
use Rattle.rv_team.proofs.alone.run_one.Goals as goal

pub deposit-requires-after_bounds : goal.deposit-requires-after_bounds
deposit-requires-after_bounds g c κs within =
    let i : ℕ = c.loop-i.i in
    let n : ℕ = c.args.n in
    let lt : i < n = c.loop-i-test.true in
    let piece = g.T.Task.piece c.args.task.now in
    let x : Piece = c.in_ok-piece.piece in
    let is : x ≡ piece i = c.in_ok-piece.ensures in
    let index = (g.met.T.Task g.world.𝓛 g.world.𝓜 g.world.𝓡 ((λ s x. x), (λ x. x), (λ x. x), λ x. x)).numbered c.args.task.now i (omega (arith, lt, c.requires.bound)) in
    ap (λ (s : BookState). slice_get s.pieces x.index) c.loop-i.invariant ∙ ap (λ (y : Piece). slice_get (pieces_of piece n) y.index) is ∙ ap (slice_get (pieces_of piece n)) index ∙ piece-below piece n i lt ∙ ap Some (sym is)

pub loop-i-preserved : goal.loop-i-preserved
loop-i-preserved g c =
    let i : ℕ = c.loop-i.i in
    let n : ℕ = c.args.n in
    let lt : i < n = c.loop-i-test.true in
    let piece = g.T.Task.piece c.args.task.now in
    let x : Piece = c.in_ok-piece.piece in
    let is : x ≡ piece i = c.in_ok-piece.ensures in
    let index = (g.met.T.Task g.world.𝓛 g.world.𝓜 g.world.𝓡 ((λ s x. x), (λ x. x), (λ x. x), λ x. x)).numbered c.args.task.now i (omega (arith, lt, c.requires.bound)) in
    alone-more (pieces_of piece n) i x.index c.loop-i.book _ _ c.loop-i.invariant c.deposit.ensures (ap (λ (y : Piece). y.index) is ∙ index)

pub returns : goal.returns
returns g c =
    let n : ℕ = c.args.n in
    let at_end : c.loop-i.i ≡ n = omega (arith, c.loop-i.auto.i-end, c.loop-i-test.false) in
    let journal = journal-at _ c.loop-i.i n c.loop-i.book c.loop-i.invariant at_end in
    record {
      whole = whole (g.T.Task.piece c.args.task.now) n c.loop-i.book (ap (λ (s : BookState). s.pieces) c.loop-i.invariant) (ap indices journal ∙ indices-alone (range_with_len 0 n));
      journal = journal;
    }
