use Rattle.std.proofs.Common.{◌≡◌, ◌∙◌, ◌-◌, true, Ok, Err, length, ap, sym, subst, arith}
use Rattle.rv_base.specs.declared.record.ShardHead.{ShardHead}
use Rattle.rv_reading.specs.Machine as machine
use Rattle.rv_reading.specs.Machine.{no_sums}
use Rattle.rv_reading.specs.Machine.Phase.{Shards}
use Rattle.rv_judge.specs.Alone.{SeesShard, can_stand, stated, stated_in}
use Rattle.rv_judge.specs.Phases.{phase_of}
use Rattle.rv_judge.specs.Subject.{Subject}
use Rattle.rv_judge.proofs.PartsAlone.{alone, head-read, shard-read, shard-refused}
use Rattle.rv_judge.proofs.alone.check_shard.Goals as goal

pub returns-in-Some-refusal : goal.returns-in-Some-refusal
returns-in-Some-refusal g c =
    let lanes = g.L.Lanes.lanes in
    let s = c.new-subject.result in
    let bytes = c.args.bytes.now in
    let i = c.args.i in
    let head = c.in-Some.ensures.1 in
    let stands : can_stand (stated bytes) s.input s.output ≡ true =
    ap (λ (h : ShardHead). can_stand (stated_in h) s.input s.output) (sym head) ∙ (λ t. can_stand (stated_in c.in-Some.head) (sym c.input.ensures t) ((c.new-subject.ensures t).output)) ∙ sym c.can_stand.ensures ∙ c.if-not-can_stand.false in
    let begun = c.at_shards-machine.ensures.phase lanes ∙ ap (λ (h : ShardHead). Shards 1 i (stated_in h) no_sums) head in
    let refused =
    shard-refused lanes s i bytes c.read-stop.new.self (stated bytes) (phase_of lanes c.at_shards-machine.result) c.read-stop.result.left.now c.read-stop.result.refusal c.read-stop.ensures.stops c.read-stop.ensures.goes begun
    c.in-Some-refusal.refusal c.in-Some-refusal.is in
    subst (λ (z : Subject). SeesShard lanes z i bytes (Err c.in-Some-refusal.refusal)) c.new-subject.ensures (alone lanes s i bytes c.in-Some.ensures.0 stands ∙ refused)

pub returns : goal.returns
returns g c =
    let lanes = g.L.Lanes.lanes in
    let s = c.new-subject.result in
    let bytes = c.args.bytes.now in
    let i = c.args.i in
    let m = c.read-stop.new.self in
    let left = c.read-stop.result.left.now in
    let head = c.in-Some.ensures.1 in
    let stands : can_stand (stated bytes) s.input s.output ≡ true =
    ap (λ (h : ShardHead). can_stand (stated_in h) s.input s.output) (sym head) ∙ (λ t. can_stand (stated_in c.in-Some.head) (sym c.input.ensures t) ((c.new-subject.ensures t).output)) ∙ sym c.can_stand.ensures ∙ c.if-not-can_stand.false in
    let begun = c.at_shards-machine.ensures.phase lanes ∙ ap (λ (h : ShardHead). Shards 1 i (stated_in h) no_sums) head in
    let read = shard-read lanes s i bytes m (stated bytes) (phase_of lanes c.at_shards-machine.result) left c.read-stop.result.refusal c.read-stop.ensures.stops c.read-stop.ensures.goes begun c.in_default-refusal.is in
    let x = read.0 in
    subst (λ (z : Subject). SeesShard lanes z i bytes (Ok (record { head = c.in-Some.head; after = m.place; reads = c.sums-all.result.reads; writes = c.sums-all.result.writes; used = length bytes - length left }))) c.new-subject.ensures (
      x,
      alone lanes s i bytes c.in-Some.ensures.0 stands ∙ read.1.is,
      record {
        head = head ∙ sym (head-read lanes s i bytes (stated bytes) x read.1.is);
        after = read.1.behind.place;
        reads = ap (λ (z : machine.Sums). z.reads) (c.sums-all.ensures ∙ read.1.behind.all);
        writes = ap (λ (z : machine.Sums). z.writes) (c.sums-all.ensures ∙ read.1.behind.all);
        used = omega arith;
        left = read.1.rest ∙ c.read-stop.ensures.behind;
      },
    )
