use Rattle.std.proofs.Common.{◌∙◌, ◌-◌, Ok, Err, length, ap, subst, arith}
use Rattle.rv_reading.specs.Machine as machine
use Rattle.rv_judge.specs.Alone.{SeesTable}
use Rattle.rv_judge.specs.Phases.{phase_of}
use Rattle.rv_judge.specs.Subject.{Subject}
use Rattle.rv_judge.proofs.PartsAlone.{table-read, table-refused}
use Rattle.rv_judge.proofs.alone.check_table.Goals as goal

pub returns-in-Some : goal.returns-in-Some
returns-in-Some g c =
    let lanes = g.L.Lanes.lanes in
    let s = c.new-subject.result in
    let bytes = c.args.bytes.now in
    let refused =
    table-refused lanes s bytes c.read-stop.new.self 0 c.first_place.result (phase_of lanes c.at_shards-machine.result) c.read-stop.result.left.now c.read-stop.result.refusal c.read-stop.ensures.stops c.read-stop.ensures.goes
    (c.at_shards-machine.ensures.phase lanes) c.in-Some.refusal c.in-Some.is in
    subst (λ (z : Subject). SeesTable lanes z.elf z.header bytes (Err c.in-Some.refusal)) c.new-subject.ensures refused

pub returns : goal.returns
returns g c =
    let lanes = g.L.Lanes.lanes in
    let s = c.new-subject.result in
    let bytes = c.args.bytes.now in
    let m = c.read-stop.new.self in
    let left = c.read-stop.result.left.now in
    let read =
    table-read lanes s bytes m 0 c.first_place.result (phase_of lanes c.at_shards-machine.result) left c.read-stop.result.refusal c.read-stop.ensures.stops c.read-stop.ensures.goes (c.at_shards-machine.ensures.phase lanes) c.in_default.is in
    subst (λ (z : Subject). SeesTable lanes z.elf z.header bytes (Ok (record { entries = c.entries.result; reads = c.sums-all.result.reads; writes = c.sums-all.result.writes; used = length bytes - length left }))) c.new-subject.ensures (
      read.0,
      read.1.is,
      record {
        entries = c.entries.ensures ∙ read.1.behind.entries;
        reads = ap (λ (z : machine.Sums). z.reads) (c.sums-all.ensures ∙ read.1.behind.all);
        writes = ap (λ (z : machine.Sums). z.writes) (c.sums-all.ensures ∙ read.1.behind.all);
        used = omega arith;
        left = read.1.rest ∙ c.read-stop.ensures.behind;
      },
    )
