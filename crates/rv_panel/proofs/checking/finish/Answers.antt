use Rattle.std.proofs.Common.{◌∙◌, map, refl, sym}
use Rattle.rv_spec.specs.Tuples.{tuple_last, tuple_read, tuple_written}
use Rattle.rv_reading.specs.Machine.{first_tuple}
use Rattle.rv_panel.specs.Chaining.{subject_of}
use Rattle.rv_panel.proofs.EndLaws.{end-refused, end-told}
use Rattle.rv_panel.proofs.checking.finish.Goals as goal

pub returns-in-Err : goal.returns-in-Err
returns-in-Err g c = λ es output digests.
    let h = c.args.header.now in
    let s = subject_of c.args.program.now h output in
    sym (end-refused g.L.Lanes.lanes s h.shards c.args.chained.now.place es c.args.chained.now.rest.now c.in-Err.refusal c.in-Err.ensures)

pub returns : goal.returns
returns g c = λ es output digests.
    let lanes = g.L.Lanes.lanes in
    let h = c.args.header.now in
    let p = c.args.program.now in
    let s = subject_of p h output in
    c.check_end.ensures
    ∙ end-told lanes s h.shards c.args.chained.now.place es c.args.chained.now.rest.now c.in-Ok.seen c.add.new.self.lanes c.add-2.new.self.lanes _ c.in-Ok.ensures
    (λ ts read. c.add.ensures.of_list lanes (map tuple_read es) (map tuple_last ts) digests.reads_are read)
    (λ ts written. c.add-2.ensures.of_list lanes (map tuple_written es) (map (first_tuple p.elf h) ts) digests.writes_are written)
    refl
