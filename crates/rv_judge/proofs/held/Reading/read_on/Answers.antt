use Rattle.std.proofs.Common.{◌∙◌, ◌++◌, List, ℕ, refl, ap, sym}
use Rattle.rv_reading.specs.Stream.{reads, patient}
use Rattle.rv_judge.specs.Subject.{step}
use Rattle.rv_judge.specs.Phases.{phase_of, stopped}
use Rattle.rv_judge.proofs.WholeFile.{few, goes-whole, lasts, stays, waits}
use Rattle.rv_judge.proofs.held.Reading.read_on.Goals as goal

pub returns-in-Some : goal.returns-in-Some
returns-in-Some g c =
    let x = c.args.self.now in
    let stop = c.read-stop.result in
    let lasting = lasts stop.refusal c.lasting.result c.in-Some.refusal c.lasting.ensures c.in-Some.is in
    record {
      rule = lasting.1;
      stays = stays g.L.Lanes.lanes x.subject (phase_of g.L.Lanes.lanes x.machine) (phase_of g.L.Lanes.lanes c.read-stop.new.self) c.args.bytes.now stop.left.now stop.refusal c.read-stop.ensures.stops c.read-stop.ensures.goes c.in-Some.refusal lasting.0 lasting.1;
    }

pub kept-self-requires : goal.kept-self-requires
kept-self-requires g c =
    let x = c.args.self.now in
    let stop = c.read-stop.result in
    let waiting =
    waits g.L.Lanes.lanes x.subject (phase_of g.L.Lanes.lanes x.machine) (phase_of g.L.Lanes.lanes c.read-stop.new.self) c.args.bytes.now stop.left.now stop.refusal c.read-stop.ensures.stops c.read-stop.ensures.goes
    (sym c.lasting.ensures ∙ ap stopped c.in_default.is) in
    few g.L.Lanes.lanes x.subject (phase_of g.L.Lanes.lanes c.read-stop.new.self) stop.left.now waiting

pub returns : goal.returns
returns g c =
    let x = c.args.self.now in
    let stop = c.read-stop.result in
    let lanes = g.L.Lanes.lanes in
    let waiting =
    waits lanes x.subject (phase_of g.L.Lanes.lanes x.machine) (phase_of g.L.Lanes.lanes c.read-stop.new.self) c.args.bytes.now stop.left.now stop.refusal c.read-stop.ensures.stops c.read-stop.ensures.goes
    (sym c.lasting.ensures ∙ ap stopped c.in_default.is) in
    record {
      is = record {
        fits = c.read-stop.ensures.fits;
        waits = ap (λ (z : List ℕ). patient (step lanes x.subject) (phase_of g.L.Lanes.lanes c.read-stop.new.self) z) c.kept-self.ensures ∙ waiting;
      };
      subject = refl;
      goes = λ rest.
          ap (λ (z : List ℕ). reads (step lanes x.subject) (phase_of g.L.Lanes.lanes c.read-stop.new.self) (z ++ rest)) c.kept-self.ensures
          ∙ goes-whole lanes x.subject (phase_of g.L.Lanes.lanes x.machine) (phase_of g.L.Lanes.lanes c.read-stop.new.self) c.args.bytes.now stop.left.now stop.refusal c.read-stop.ensures.stops c.read-stop.ensures.goes rest;
    }
