use Rattle.std.proofs.Common.{◌≡◌, ◌<◌, ℕ, List, map, false, sym, ap, ◌∙◌, arith}
use Rattle.std.specs.Prelude.{Some, slice_get, slice_index_or}
use mathlib.Core.Option.{some, some-injective}
use lib.ListN.{get_elem?}
use Rattle.rv_book.specs.declared.task.Piece.{Piece}
use Rattle.rv_book.specs.Journal.{BookState, pieces_of, indices}
use Rattle.rv_book.proofs.Lemmas.{piece-below, whole}
use Rattle.rv_claim.specs.declared.view.Deposit.{Deposit}
use Rattle.rv_claim.specs.Passes.{deposited_of}
use Rattle.rv_claim.specs.Closing.{depositor, slot_by, closing}
use Rattle.rv_claim.proofs.Closes.{taken-piece, taken-none, still-full, now-empty, book-more, book-same, indices-closing}
use Rattle.std.specs.Slots.{slots_filled}
use Rattle.rv_claim.proofs.board.Board.close.Goals as goal
use Rattle.rv_claim.proofs.board.Board.close.Goals.{in-Some, in_default}

pub take-requires : goal.take-requires
take-requires g c =
    let i = c.loop-i.invariant in
    let lt : c.loop-i.i < c.args.self.shards = c.loop-i-test.true in (omega (arith, i.1, lt), i.2 c.loop-i.i (omega arith) lt)

pub deposit-requires-after_bounds : goal.deposit-requires-after_bounds
deposit-requires-after_bounds g c κs within =
    let n : ℕ = c.args.self.shards in
    let piece : ℕ → Piece = g.T.Task.piece c.args.task.now in
    let i : ℕ = c.loop-i.i in
    let inv = c.loop-i.invariant in
    let lt : i < n = c.loop-i-test.true in
    let slot = c.end_table-closed.ensures.slots i lt ∙ ap (λ t. some (slot_by (g.T.Task.piece t) (depositor i (map deposited_of c.args.passes.items) 0) i)) c.requires.task in
    let k : Deposit = c.in-Some.field-0 in
    let t = taken-piece piece _ i k c.take.result c.in-Some.is (some-injective _ _ (sym c.take.ensures.value ∙ ap (λ xs. get_elem? xs i) inv.0 ∙ slot)) in
    let is : k.piece ≡ piece i = ap (λ (m : Deposit). m.piece) t.2 in
    ap (λ (s : BookState). slice_get s.pieces k.piece.index) inv.4 ∙ ap (λ (y : Piece). slice_get (pieces_of piece n) y.index) is
    ∙ ap (slice_get (pieces_of piece n)) ((g.met.T.Task g.world.𝓛 g.world.𝓜 g.world.𝓡 ((λ s x. x), (λ x. x), (λ x. x), λ x. x)).numbered c.args.task.now i (omega (arith, lt, c.requires.bound))) ∙ piece-below piece n i lt ∙ ap Some (sym is)

pub loop-i-preserved : goal.loop-i-preserved
loop-i-preserved g c =
    let n : ℕ = c.args.self.shards in
    let ds : List (List ℕ) = map deposited_of c.args.passes.items in
    let piece : ℕ → Piece = g.T.Task.piece c.args.task.now in
    let i : ℕ = c.loop-i.i in
    let inv = c.loop-i.invariant in
    let lt : i < n = c.loop-i-test.true in
    let slot = c.end_table-closed.ensures.slots i lt ∙ ap (λ t. some (slot_by (g.T.Task.piece t) (depositor i ds 0) i)) c.requires.task in
    let taken : c.take.result ≡ slot_by piece (depositor i ds 0) i = some-injective _ _ (sym c.take.ensures.value ∙ ap (λ xs. get_elem? xs i) inv.0 ∙ slot) in
    let others = c.take.ensures.others in (
      others.0 ∙ inv.0,
      others.2 ∙ inv.1,
      (λ k le k_lt. ap (λ fs. slice_index_or fs k false) others.1 ∙ still-full (slots_filled c.loop-i.closed.slots) i k le (inv.2 k (omega (arith, le)) k_lt)),
      (λ k at. ap (λ fs. slice_index_or fs k false) others.1 ∙ now-empty (slots_filled c.loop-i.closed.slots) i k (omega (arith, lt, inv.1, c.loop-i.closed.slots.ok.1)) at (inv.3 k)),
      elim c.match-take.branch [
        | in-Some u ↦
            let k : Deposit = u.in-Some.field-0 in
            let t = taken-piece piece _ i k c.take.result u.in-Some.is taken in
            let is : k.piece ≡ piece i = ap (λ (m : Deposit). m.piece) t.2 in
            let index : k.piece.index ≡ i = ap (λ (y : Piece). y.index) is ∙ (g.met.T.Task g.world.𝓛 g.world.𝓜 g.world.𝓡 ((λ s x. x), (λ x. x), (λ x. x), λ x. x)).numbered c.args.task.now i (omega (arith, lt, c.requires.bound)) in
            u.book-is ∙ book-more piece n ds i t.0 k.pass k.piece.index c.loop-i.book _ _ inv.4 u.deposit.ensures (ap (λ (m : Deposit). m.pass) t.2) index t.1
        | in_default u ↦ u.book-is ∙ book-same piece n ds i c.loop-i.book inv.4 (taken-none piece _ i c.take.result u.in_default.is taken)
      ],
    )

pub returns-clause-whole : goal.returns-clause-whole
returns-clause-whole g c past =
    let n : ℕ = c.args.self.shards in
    let ds : List (List ℕ) = map deposited_of c.args.passes.items in
    let piece : ℕ → Piece = g.T.Task.piece c.args.task.now in
    let at_end : c.loop-i.i ≡ n = omega (arith, c.loop-i.auto.i-end, c.loop-i-test.false) in
    let journal : c.loop-i.book.journal ≡ closing ds n = ap (λ (s : BookState). s.journal) c.loop-i.invariant.4 ∙ ap (closing ds) at_end in
    whole piece n c.loop-i.book (ap (λ (s : BookState). s.pieces) c.loop-i.invariant.4) (ap indices journal ∙ indices-closing ds n (c.end_table-closed.ensures.each past))
