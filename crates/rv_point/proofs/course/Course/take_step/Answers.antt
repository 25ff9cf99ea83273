use Rattle.std.proofs.Common.{◌+◌, refl}
use Rattle.rv_spec.specs.Run.{run}
use Rattle.rv_spec.specs.Trace.{history}
use Rattle.rv_point.proofs.CourseLaws.{row-taken}
use Rattle.rv_point.proofs.course.Course.take_step.Goals as goal

pub returns-clause-ok : goal.returns-clause-ok
returns-clause-ok c =
    let old = c.args.self.now in
    let m = c.in_ok-taken.taken in
    let s = run old.hart.cells.image old.hart.input old.steps in
    let stands = c.requires.at.after.stands in
    row-taken old (record { hart = c.step.new.self; output = c.put.new.output; steps = old.steps + 1; ended = m.end }) c.step.new.row m c.requires.at c.requires.going c.step.ensures.image c.step.ensures.input
    (c.in_ok-taken.ensures.ok s stands) (c.in_ok-taken.ensures.times s (history old.hart.cells.image old.hart.input old.steps) stands c.requires.at.after.timed) c.in_ok-put.ensures refl refl
