use Rattle.std.proofs.Common.{rules, ◌≡◌, ℕ, ◌+◌, List, [], replicate, sym, ap, subst, arith}
use Rattle.std.specs.Prelude.{None}
use Rattle.atomic_table.specs.Table.{opening}
use Rattle.rv_claim.specs.Views.{home_view}
use Rattle.rv_claim.specs.History.{Kept}
use Rattle.rv_claim.proofs.Histories.{kept-begins}
use Rattle.rv_claim.proofs.Seated.{seat-splits}
use Rattle.rv_claim.proofs.board.Board.open.Goals as goal

pub vacant-requires : goal.vacant-requires
vacant-requires g c =
    let piece = g.T.Task.piece c.of.result.value in
    let n : ℕ = c.args.n in
    let w : ℕ = c.args.workers in
    let words : c.as_slice.result.now ≡ replicate (n + 1) 0 = search rules in
    subst (λ (ws : List ℕ). Kept piece n w (opening ws (replicate n None) (home_view 0 []))) (sym words) (kept-begins piece n w (search rules) (search rules) (search rules))

pub split_seat-seat-requires : goal.split_seat-seat-requires
split_seat-seat-requires g c =
    let made = c.in-Ok-vacant.made in
    let e = c.in-Ok-vacant.ensures in
    let workers : made.0.shared.key.1 ≡ c.args.workers = ap (λ k. k.1) e.5 in
    let long = c.in-Ok.ensures.len in
    let same = c.as_slice.ensures.len in (
      e.2,
      omega (arith, e.0, same, long),
      seat-splits _ _ _ _ made.1.me _ _ e.3 e.4 (omega (arith, workers, c.requires.workers)),
    )
