use Rattle.std.proofs.Common.{◌<◌, length, ap, ◌∙◌, arith}
use Rattle.rv_claim.proofs.Steps.{Seat}
use Rattle.rv_claim.proofs.Seated.{seat-joins}
use Rattle.rv_claim.proofs.closing.gather_passes.Goals as goal

pub join_seat-requires : goal.join_seat-requires
join_seat-requires g c =
    let i = c.loop-passes.invariant in
    let p = c.remove-seat.result in
    let some_left : 0 < length c.loop-passes.passes.items = omega (arith, c.loop-passes-test.true, c.len.ensures, c.loop-passes.passes.ok.0) in (
      i.0 ∙ c.requires.home.0,
      ap (λ q. q.seat.table_id) c.remove-seat.ensures.value ∙ i.4 0 p some_left,
      ap (λ (m : Seat). m.1) p.sits,
      c.requires.table,
      seat-joins _ _ _ _ c.loop-passes.home.me p.seat.id p.seat.me.0 _ _ i.1 i.2 (ap (λ (m : Seat). m.0) p.sits) p.idle,
    )
