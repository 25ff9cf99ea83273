use Rattle.std.proofs.Common.{rules, ◌≡◌, [], ◌∷◌, ℕ, ◌+◌, ◌-◌, sym, refl, ap, ◌∙◌, arith}
use Rattle.std.specs.Prelude.{Some}
use Rattle.rv_book.specs.declared.task.Piece.{Piece}
use Rattle.rv_claim.specs.declared.view.Deposit.{Deposit}
use Rattle.rv_claim.specs.declared.view.Lists.{Lists}
use Rattle.rv_claim.specs.Views.{opens, kept, pass_view}
use Rattle.rv_claim.proofs.Steps.{Seat, in-times, out-times}
use Rattle.rv_claim.proofs.Seated.{seat-opens, seat-fills, held}
use Rattle.rv_claim.proofs.board.Board.deposit.Goals as goal

pub fetch_add-requires : goal.fetch_add-requires
fetch_add-requires g c =
    let p = c.args.pass.now in
    let b = c.args.self.now in
    let i : ℕ = c.args.piece.index in (
      search rules,
      omega (arith, b.sized.0, c.requires.index),
      seat-opens _ _ _ _ _ _ i (i + 1) refl p.sits p.idle (in-times i _ c.requires.drew) (out-times i _ c.requires.new) (omega (arith, b.about.0, c.requires.index)),
    )

pub fetch_add-requires-2 : goal.fetch_add-requires-2
fetch_add-requires-2 g c =
    let p = c.args.pass.now in
    let b = c.args.self.now in
    let i : ℕ = c.args.piece.index in
    let l : Lists = p.seat.me.0.own in
    let piece : ℕ → Piece = g.T.Task.piece b.table.shared.key.2.value in
    let x : Piece = c.args.piece in
    let k : Deposit = record { pass = p.number; piece = x } in
    let task : x ≡ piece i = c.requires.piece in
    let same : k ≡ kept l.number (piece i) = ap (λ (n : ℕ). kept n x) (sym p.named) ∙ ap (λ (y : Piece). kept l.number y) task in
    let held_piece = held l i (i + 1 - 1) k p.seat.me c.fetch_add.new.seat.me c.exchange.new.seat.me p.sits (omega arith) c.fetch_add.ensures.2.1 c.exchange.ensures.3 in (
      search rules,
      omega (arith, b.sized.0, c.requires.index),
      seat-fills _ _ _ _ _ _ (opens l i) i (i + 1) refl (held_piece ∙ ap (λ (y : Deposit). let s : Seat = (pass_view (opens l i), (i, Some y) ∷ []) in s) same) refl (omega (arith, b.about.0, c.requires.index)),
    )
