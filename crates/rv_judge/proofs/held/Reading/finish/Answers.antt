use Rattle.std.proofs.Common.{◌∙◌, [], ◌++◌, List, ℕ, ap, sym}
use Rattle.rv_base.specs.declared.record.Header.{Header}
use Rattle.rv_reading.specs.Stream.{reads}
use Rattle.rv_reading.specs.Machine.{told}
use Rattle.rv_judge.specs.Subject.{step}
use Rattle.rv_judge.specs.Phases.{phase_of, stopped}
use Rattle.rv_judge.proofs.WholeFile.{ends}
use Rattle.rv_judge.proofs.held.Reading.finish.Goals as goal

pub returns : goal.returns
returns g c =
    let x = c.args.self.now in
    c.verdict_on.ensures
    ∙ ap (λ (h : Header). told h (stopped c.read-stop.result.refusal)) c.header.ensures.value
    ∙ sym (ends g.L.Lanes.lanes x.subject (phase_of g.L.Lanes.lanes x.machine) (phase_of g.L.Lanes.lanes c.read-stop.new.self) c.as_slice.result.now c.read-stop.result.left.now c.read-stop.result.refusal c.read-stop.ensures.stops c.read-stop.ensures.goes x.subject.header)
    ∙ ap (λ (z : List ℕ). told x.subject.header (reads (step g.L.Lanes.lanes x.subject) (phase_of g.L.Lanes.lanes x.machine) (z ++ []))) c.as_slice.ensures.value
