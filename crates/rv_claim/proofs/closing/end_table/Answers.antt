use Rattle.std.proofs.Common.{◌≡◌, ◌<◌, ℕ, List, map, length, ap, ◌∙◌, arith}
use Rattle.std.specs.Prelude.{slice_index_or}
use Rattle.rv_book.specs.declared.task.Piece.{Piece}
use Rattle.rv_claim.specs.declared.pass.Pass.{Pass}
use Rattle.rv_claim.specs.Views.{home_view}
use Rattle.rv_claim.specs.Passes.{number_of}
use Rattle.rv_claim.specs.Making.{own_of}
use Rattle.rv_claim.proofs.Closes.{gathered-all, final-as, slot-at, each-at}
use Rattle.rv_claim.proofs.Reached.{final-ruled, is-run}
use Rattle.rv_claim.proofs.Steps.{Seat}
use Rattle.rv_claim.proofs.Seated.{seat-joins, home-seat}
use Rattle.rv_claim.proofs.closing.end_table.Goals as goal

pub join_seat-requires : goal.join_seat-requires
join_seat-requires g c =
    let b = c.args.board in
    let p = c.remove-seat.result in
    let h = c.into_seat-home in
    let some_pass : 0 < length c.args.passes.items = omega (arith, c.requires.passes.0, b.few.3) in
    let all = c.requires.passes.1 0 p some_pass in
    let first : p.number ≡ 0 = ap (λ q. q.number) c.remove-seat.ensures.value ∙ all.1 in
    let mine : p.seat.table_id ≡ b.table.shared.table_id = ap (λ q. q.seat.table_id) c.remove-seat.ensures.value ∙ all.0.0 in
    let workers : p.workers ≡ b.workers = ap (λ q. q.workers) c.remove-seat.ensures.value ∙ all.0.2 in
    let at_home = p.home_is first in (
      h.ensures.0 ∙ at_home.0 ∙ mine,
      mine,
      ap (λ (m : Seat). m.1) p.sits,
      omega (arith, b.sized.0),
      seat-joins _ _ _ _ h.result.me p.seat.id p.seat.me.0 _ _ (h.ensures.1 ∙ at_home.1) (home-seat h.result.me _ _ _ b.workers p.keeps_home first workers h.ensures.2 h.ensures.3) (ap (λ (m : Seat). m.0) p.sits) p.idle,
    )

pub returns : goal.returns
returns g c =
    let b = c.args.board in
    let n : ℕ = b.shards in
    let ps : List Pass = c.args.passes.items in
    let piece : ℕ → Piece = g.T.Task.piece b.table.shared.key.2.value in
    let p = c.remove-seat.result in
    let h = c.into_seat-home in
    let some_pass : 0 < length ps = omega (arith, c.requires.passes.0, b.few.3) in
    let first_pass = c.requires.passes.1 0 p some_pass in
    let first : p.number ≡ 0 = ap (λ q. q.number) c.remove-seat.ensures.value ∙ first_pass.1 in
    let workers : p.workers ≡ b.workers = ap (λ q. q.workers) c.remove-seat.ensures.value ∙ first_pass.0.2 in
    let seat = home-seat h.result.me _ _ _ b.workers p.keeps_home first workers h.ensures.2 h.ensures.3 in
    let all = gathered-all b.workers ps _ p h.result.me _ c.gather_passes.new.home.me seat c.join_seat.ensures.2 c.gather_passes.ensures.gathered c.remove-seat.ensures.items c.remove-seat.ensures.value some_pass in
    let last = final-as piece _ n _ b.workers _ _ (home_view b.workers (map own_of ps)) _ _ b.about.0 b.about.1 c.gather_passes.ensures.home.1 all c.close_with.ensures.values.2 in
    let ruled = final-ruled piece n b.workers 0 (home_view b.workers (map own_of ps)) _ _ last in
    let named : (k : ℕ) (d : Pass) → k < length ps → number_of (slice_index_or ps k d) ≡ k = λ k d lt. (c.requires.passes.1 k d lt).1 in
    record {
      long = c.close_with.ensures.counts.1 ∙ b.sized.1;
      full = c.close_with.ensures.values.1;
      slots = slot-at piece n b.workers ps _ _ c.requires.passes.0 named ruled;
      each = λ past i lt. each-at piece n b.workers ps _ _ c.requires.passes.0 named ruled (omega (arith, b.few.3)) past c.requires.settled i lt;
      run = is-run piece n b.workers ps _ _ c.requires.passes.0 named last c.requires.settled;
    }
