use Rattle.std.proofs.Common.{rules, ◌≡◌, ℕ, false, sym, ap, ◌∙◌, arith}
use Rattle.rv_claim.specs.Views.{is_past}
use Rattle.rv_claim.proofs.Seated.{seat-claims}
use Rattle.rv_claim.proofs.board.Board.claim.Goals as goal

pub fetch_add-found-requires : goal.fetch_add-found-requires
fetch_add-found-requires g c =
    let p = c.args.pass.now in
    let b = c.args.self.now in
    let same : p.shards ≡ b.table.shared.key.0 = search rules in
    let not_done : p.done ≡ false = search rules in
    let new : is_past b.table.shared.key.0 p.seat.me.0.own.drawn ≡ false = ap (λ (k : ℕ). is_past k p.seat.me.0.own.drawn) (sym same) ∙ (sym p.ended ∙ not_done) in (
      search rules,
      omega (arith, b.sized.0),
      seat-claims _ _ _ _ _ _ p.sits new,
    )
