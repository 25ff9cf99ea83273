use Rattle.std.proofs.Common.{◌∙◌, sym}
use Rattle.rv_judge.specs.Phases.{Went, extent_of, phase_of}
use Rattle.rv_judge.proofs.ReadingOn.{smaller, goes, is-within, is-last}
use Rattle.rv_judge.proofs.phases.Machine.read.Goals as goal

pub loop-extent-smaller : goal.loop-extent-smaller
loop-extent-smaller g c =
    let w : Went g.L.Lanes.lanes c.args.subject.now (phase_of g.L.Lanes.lanes c.loop-extent.self) c.step.new.self c.loop-extent.left.now c.in-Ok-Some.length = rw c.in-Ok-Some.field-0-is at c.in-Ok-Some.ensures in
    smaller g.L.Lanes.lanes c.args.subject.now (extent_of c.args.extent) c.loop-extent.self c.step.new.self c.args.self.now c.loop-extent.left.now c.args.bytes.now c.in-Ok-Some.length (sym (c.is_behind.ensures g.L.Lanes.lanes) ∙ c.loop-extent-test.true) w

pub loop-extent-preserved : goal.loop-extent-preserved
loop-extent-preserved g c =
    let s = c.args.subject.now in
    let m = c.loop-extent.self in
    let new = c.step.new.self in
    let left = c.loop-extent.left.now in
    let all = c.args.bytes.now in
    let n = c.in-Ok-Some.length in
    let w : Went g.L.Lanes.lanes s (phase_of g.L.Lanes.lanes m) new left n = rw c.in-Ok-Some.field-0-is at c.in-Ok-Some.ensures in
    let reading = sym (c.is_behind.ensures g.L.Lanes.lanes) ∙ c.loop-extent-test.true in
    let before = c.loop-extent.invariant in
    let lanes = g.L.Lanes.lanes in
    let extent = extent_of c.args.extent in
    record {
      fits = w.fits;
      goes = goes lanes s extent m new c.args.self.now left all n reading w before.goes;
      within = is-within lanes s extent m new c.args.self.now left all n reading w before.within;
      behind = is-last lanes s extent m new c.args.self.now left all n reading w before.within before.behind;
    }
