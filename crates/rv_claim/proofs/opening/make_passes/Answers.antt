use Rattle.std.proofs.Common.{rules, ◌<◌, ℕ, sym, subst}
use Rattle.rv_claim.proofs.Seated.{seat-splits}
use Rattle.rv_claim.proofs.opening.make_passes.Goals as goal

pub split_seat-seat-requires : goal.split_seat-seat-requires
split_seat-seat-requires g c =
    let i = c.loop-number.invariant in (
      i.0,
      search rules,
      seat-splits _ _ _ _ c.loop-number.home.me _ _ i.1 i.2 (let room : c.loop-number.number < c.args.workers = c.loop-number-test.true in subst (λ (k : ℕ). c.loop-number.number < k) (sym c.requires.table.0) room),
    )
