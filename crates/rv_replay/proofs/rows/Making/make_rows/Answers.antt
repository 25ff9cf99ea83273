use Rattle.std.proofs.Common.{◌≡◌, ◌+◌, ◌≤◌, ◌++◌, List, map, length, sym, ap, subst}
use Rattle.rv_base.specs.declared.record.Access.{Access}
use Rattle.rv_spec.specs.Tuples.{event, tuple_read, tuple_written}
use Rattle.rv_pairs.specs.Covers.{Covers}
use Rattle.rv_replay.specs.declared.rows.Making.{Making}
use Rattle.rv_spec.specs.Trace.{Row}
use Rattle.rv_replay.proofs.MakingLaws.{row-made, made-more, row-some}
use Rattle.rv_replay.proofs.rows.Making.make_rows.Goals as goal

pub write_row-requires : goal.write_row-requires
write_row-requires g c =
    let i = c.args.self.now.hart.cells.image in
    let input = c.args.self.now.hart.input in
    let m = c.loop-done.done in
    let makes = row-made i input g.L.Lanes.lanes c.args.first c.args.count m (c.args.first + c.from.result) c.loop-done.self c.loop-done.pairing c.step.new.self c.step.new.row c.in_ok-taken.taken c.requires.program c.requires.bytes (ap (λ x. c.args.first + x) c.from.ensures) c.loop-done-test.true c.loop-done.invariant
    c.step.ensures.image c.step.ensures.input c.in_ok-taken.ensures.ok c.in_ok-taken.ensures.times in
    subst (λ (x : Row). 1 ≤ length x.accesses) (sym makes.is) (row-some i input (c.args.first + m))

pub loop-done-preserved : goal.loop-done-preserved
loop-done-preserved g c =
    let i = c.args.self.now.hart.cells.image in
    let input = c.args.self.now.hart.input in
    let lanes = g.L.Lanes.lanes in
    let k = c.args.first in
    let n = c.args.count in
    let m = c.loop-done.done in
    let old = c.loop-done.self in
    let r = c.step.new.row in
    let s = c.in_ok-taken.taken in
    let pairs = c.accesses.new.self in
    let number : k + c.from.result ≡ k + m = ap (λ x. k + x) c.from.ensures in
    let makes = row-made i input lanes k n m (k + c.from.result) old c.loop-done.pairing c.step.new.self r s c.requires.program c.requires.bytes number c.loop-done-test.true c.loop-done.invariant
    c.step.ensures.image c.step.ensures.input c.in_ok-taken.ensures.ok c.in_ok-taken.ensures.times in
    let new : Making = record { hart = c.step.new.self; bytes = c.write_row.new.to; put = old.put + c.from-in-loop-done.result } in
    made-more i input lanes k n m old new c.loop-done.pairing pairs r s c.loop-done.invariant makes c.in_ok-write_row.ensures.ok
    (λ rs ws covers. subst (λ (as_read : List Access). Covers lanes pairs (rs ++ map tuple_read (map (event (k + m)) as_read)) (ws ++ map tuple_written (map (event (k + m)) as_read))) c.as_slice.ensures.value
    (subst (λ x. Covers lanes pairs (rs ++ map tuple_read (map (event x) c.as_slice.result.now)) (ws ++ map tuple_written (map (event x) c.as_slice.result.now))) number (c.accesses.ensures.covers rs ws covers)))
    (ap (λ x. old.put + x) c.from-in-loop-done.ensures)
