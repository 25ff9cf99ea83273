use Rattle.std.proofs.Common.{◌≡◌, ◌+◌, ◌-◌, ℕ, suc, length, take, drop, map, subst, arith}
use Rattle.std.proofs.lemmas.Result.{err_from_is_err_and}
use Rattle.std.proofs.lemmas.List.{take_rest}
use Rattle.rv_spec.specs.Tuples.{tuple_read, tuple_written}
use Rattle.rv_panel.proofs.Lemmas.{shards-within}
use Rattle.rv_parts.specs.declared.shards.ShardsSeen.{ShardsSeen}
use Rattle.rv_parts.specs.Alone.{subject_of}
use Rattle.rv_parts.proofs.ShardsSeen.{IsBetween, begun, ended, gone, refused-first, refused-later}
use Rattle.rv_parts.proofs.shards.check_shards.Goals as goal

pub returns-in_err-seen : goal.returns-in_err-seen
returns-in_err-seen g c =
    let p = err_from_is_err_and c.from_residual.result c.from_residual.ensures.1 in
    let s = subject_of c.args.program.now c.args.header.now c.args.output.now in
    rw (p.1, p.2) (refused-first g.L.Lanes.lanes s c.args.count c.args.first c.args.body.now c.in_err-seen.field-0.0 c.requires.some c.in_err-seen.ensures)

pub overflow_step-i : goal.overflow_step-i
overflow_step-i g c = omega (arith, (shards-within c.args.header.now c.requires.header.numbers).1, c.requires.within, c.requires.some)

pub overflow_add-i-end : goal.overflow_add-i-end
overflow_add-i-end g c = omega (arith, (shards-within c.args.header.now c.requires.header.numbers).1, c.requires.within)

pub loop-i-init : goal.loop-i-init
loop-i-init g c =
    let lanes = g.L.Lanes.lanes in
    let s = subject_of c.args.program.now c.args.header.now c.args.output.now in
    let n = c.args.count in
    let i = c.args.first in
    let seen = c.in_ok-seen.seen in
    let body = c.args.body.now in
    let rest = take (length body - seen.used) (drop seen.used body) in
    let b = begun lanes s n i body rest seen c.requires.some c.in_ok-seen.ensures (take_rest body seen.used) in
    let left : n - 1 ≡ i + n - (i + 1) = omega (arith, c.requires.some) in
    record {
      later = omega arith;
      between = (b.0, subst (λ (m : ℕ). IsBetween lanes s n i m (i + 1) body seen.after b.0 seen.reads.lanes seen.writes.lanes rest) left b.1);
    }

pub returns-in_err-seen-2 : goal.returns-in_err-seen-2
returns-in_err-seen-2 g c =
    let p = err_from_is_err_and c.from_residual-in_err-seen-2.result c.from_residual-in_err-seen-2.ensures.1 in
    let lanes = g.L.Lanes.lanes in
    let s = subject_of c.args.program.now c.args.header.now c.args.output.now in
    let n = c.args.count in
    let i = c.args.first in
    let j = c.loop-i.i in
    let at = c.loop-i in
    let b = at.invariant.between in
    let left : i + n - j ≡ suc (i + n - (j + 1)) = omega (arith, c.loop-i-test.true) in
    let before = subst (λ (m : ℕ). IsBetween lanes s n i m j c.args.body.now at.after b.0 at.reads.lanes at.writes.lanes at.rest.now) left b.1 in
    rw (p.1, p.2) (refused-later lanes s n i (i + n - (j + 1)) j c.args.body.now at.after b.0 at.reads.lanes at.writes.lanes at.rest.now c.in_err-seen-2.field-0.0 before c.in_err-seen-2.ensures)

pub loop-i-preserved : goal.loop-i-preserved
loop-i-preserved g c =
    let lanes = g.L.Lanes.lanes in
    let s = subject_of c.args.program.now c.args.header.now c.args.output.now in
    let n = c.args.count in
    let i = c.args.first in
    let j = c.loop-i.i in
    let at = c.loop-i in
    let b = at.invariant.between in
    let left : i + n - j ≡ suc (i + n - (j + 1)) = omega (arith, c.loop-i-test.true) in
    let before = subst (λ (m : ℕ). IsBetween lanes s n i m j c.args.body.now at.after b.0 at.reads.lanes at.writes.lanes at.rest.now) left b.1 in
    let used = c.in_ok-seen-2.seen.used in
    let rest = at.rest.now in
    record {
      later = omega (arith, at.invariant.later);
      between =
          gone lanes s n i (i + n - (j + 1)) j c.args.body.now at.after b.0 at.reads.lanes at.writes.lanes at.rest.now c.in_ok-seen-2.seen c.add.new.self.lanes c.add-in-loop-i.new.self.lanes (take (length rest - used) (drop used rest)) before c.in_ok-seen-2.ensures
          (λ ts e. c.add.ensures.of_list lanes (map tuple_read b.0) ts before.read e)
          (λ ts e. c.add-in-loop-i.ensures.of_list lanes (map tuple_written b.0) ts before.written e)
          (take_rest rest used);
    }

pub returns : goal.returns
returns g c =
    let lanes = g.L.Lanes.lanes in
    let s = subject_of c.args.program.now c.args.header.now c.args.output.now in
    let n = c.args.count in
    let i = c.args.first in
    let j = c.loop-i.i in
    let at = c.loop-i in
    let b = at.invariant.between in
    let none : i + n - j ≡ 0 = omega (arith, c.loop-i-test.false) in
    let seen : ShardsSeen = record { after = at.after; reads = at.reads; writes = at.writes; rest = at.rest } in
    ended lanes s n i j c.args.body.now b.0 seen (subst (λ (m : ℕ). IsBetween lanes s n i m j c.args.body.now at.after b.0 at.reads.lanes at.writes.lanes at.rest.now) none b.1)
