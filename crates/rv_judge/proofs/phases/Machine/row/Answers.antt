use Rattle.std.proofs.Common.{◌∙◌, List, true, map, Err, Ok, Some, ap, sym, subst, refl, drop, arith}
use Rattle.rv_base.specs.declared.record.Access.{Access}
use Rattle.rv_base.specs.declared.record.Refusal.{Refusal}
use Rattle.rv_rules.specs.RowRules.{row_rule}
use Rattle.rv_rules.specs.Reading.{last_of}
use Rattle.rv_spec.specs.Tuples.{event}
use Rattle.rv_row.specs.RowReading.{row_view}
use Rattle.rv_row.proofs.Lemmas.{good-form}
use Rattle.rv_reading.specs.Machine.{with_events}
use Rattle.rv_judge.specs.declared.phases.Phase.{Phase}
use Rattle.rv_judge.specs.Phases.{CanPass, PhaseFits, behind_row, phase_at, sums_in, totals_of, inside_of}
use Rattle.rv_judge.proofs.ShardSums.{events-added}
use Rattle.rv_judge.proofs.StepFound.{row-formless, row-false, row-reached}
use Rattle.rv_judge.proofs.phases.Machine.row.Goals as goal

pub pass_row-requires : goal.pass_row-requires
pass_row-requires g c =
    let read = c.in-Row.ensures.exact in
    let count = (good-form c.args.bytes.now read.0).count in
    subst (λ (p : Phase). CanPass p c.in-Row.length) (sym c.requires.phase)
    (c.requires.some, omega (arith, c.requires.some, c.requires.fits.phase.rows, c.requires.fits.within.rows), c.requires.fits.phase.bytes, omega (arith, read.2, count))

pub returns-in-Ok : goal.returns-in-Ok
returns-in-Ok g c =
    let r = c.args.rows in
    let m = c.args.self.now in
    let s = c.args.subject.now in
    let read = c.in-Row.ensures.exact in
    let judged = c.in-Ok.ensures.answer in
    let count = (good-form c.args.bytes.now read.0).count in
    let passed = c.pass_row.ensures ∙ ap (λ (p : Phase). behind_row p c.in-Row.length) c.requires.phase in
    let added = events-added g.L.Lanes.lanes m.shard c.accesses.new.self c.step_of-step.result c.as_slice.result.now c.accesses.ensures.reads c.accesses.ensures.writes
    ∙ ap (λ (z : List Access). with_events true g.L.Lanes.lanes (sums_in g.L.Lanes.lanes m.shard) (map (event c.step_of-step.result) z)) c.as_slice.ensures.value in
    record {
      found =
          row-reached g.L.Lanes.lanes s r.next r.behind r.shard (inside_of g.L.Lanes.lanes r m.shard) m.place (totals_of g.L.Lanes.lanes m.all) c.args.bytes.now r.left c.in-Row.length c.step_of-step.result (row_view c.read_row_into.new.row) c.in-Ok.after (sums_in g.L.Lanes.lanes c.accesses.new.self)
          c.requires.some read.0 read.1 read.2 c.step_of-step.ensures.value judged.0 judged.1 added
          ∙ ap (λ (p : Phase). Ok (Some (phase_at g.L.Lanes.lanes p c.in-Ok.after c.accesses.new.self m.all, drop c.in-Row.length c.args.bytes.now))) (sym passed);
      taken = read.3;
      fits = record {
        within = c.requires.fits.within;
        place = c.in-Ok.ensures.next;
        phase = subst (λ (p : Phase). PhaseFits s.header p) (sym passed) (record {
          shards = c.requires.fits.phase.shards;
          rows = omega (arith, c.requires.some, c.requires.fits.phase.rows);
          bytes = omega (arith, c.requires.fits.phase.bytes, read.2, count);
        });
      };
    }

pub returns-in-Err : goal.returns-in-Err
returns-in-Err g c =
    let r = c.args.rows in
    let m = c.args.self.now in
    let s = c.args.subject.now in
    let read = c.in-Row.ensures.exact in
    let row = row_view c.read_row_into.new.row in
    let rule = ap (λ n. row_rule s.header.version row n m.place (last_of s.header n) s.input s.output) (sym c.step_of-step.ensures.value) ∙ c.in-Err.ensures.answer in
    let found = row-false g.L.Lanes.lanes s r.next r.behind r.shard (inside_of g.L.Lanes.lanes r m.shard) m.place (totals_of g.L.Lanes.lanes m.all) c.args.bytes.now r.left c.in-Err.rule row c.requires.some read.0 read.1 rule in
    (found ∙ ap (λ (x : Refusal). Err x) (sym c.at.ensures), refl)

pub returns-in-Short : goal.returns-in-Short
returns-in-Short g c =
    let r = c.args.rows in
    let m = c.args.self.now in
    let found = row-formless g.L.Lanes.lanes c.args.subject.now r.next r.behind r.shard (inside_of g.L.Lanes.lanes r m.shard) m.place (totals_of g.L.Lanes.lanes m.all) c.args.bytes.now r.left 1 c.requires.some c.in-Short.ensures.exact in
    (found ∙ ap (λ (x : Refusal). Err x) (sym c.at-in-Short.ensures), refl)

pub returns-in-Shape : goal.returns-in-Shape
returns-in-Shape g c =
    let r = c.args.rows in
    let m = c.args.self.now in
    let found = row-formless g.L.Lanes.lanes c.args.subject.now r.next r.behind r.shard (inside_of g.L.Lanes.lanes r m.shard) m.place (totals_of g.L.Lanes.lanes m.all) c.args.bytes.now r.left 10 c.requires.some c.in-Shape.ensures.exact in
    (found ∙ ap (λ (x : Refusal). Err x) (sym c.at-in-Shape.ensures), refl)
