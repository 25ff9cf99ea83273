use Rattle.std.proofs.Common.{◌≡◌, ◌∙◌, Bool, not, Err, Some, None, ap, sym}
use Rattle.rv_base.specs.declared.record.Header.{Header}
use Rattle.rv_base.specs.declared.record.Refusal.{Refusal}
use Rattle.rv_rules.specs.Checks.{first_broken}
use Rattle.rv_reading.specs.Machine.{Sums}
use Rattle.rv_judge.specs.Phases.{totals_of, end_checks}
use Rattle.rv_judge.proofs.StepFound.{end-found, not-not}
use Rattle.rv_judge.proofs.phases.Machine.end.Goals as goal

pub returns-in-Some : goal.returns-in-Some
returns-in-Some g c =
    let lanes = g.L.Lanes.lanes in
    let m = c.args.self.now in
    let nothing : Bool = not (not c.is_empty.result) in
    let broken = ap (λ (h : Header). first_broken (end_checks h m.place (totals_of lanes m.all) nothing)) (sym c.header-header.ensures.value) ∙ ap (λ (z : Sums). first_broken (end_checks c.header-header.result.now m.place z nothing)) (sym c.sums-all.ensures) ∙ sym c.broken_end.ensures ∙ c.in-Some.is in
    let found = end-found lanes c.args.subject.now c.args.next c.args.before m.place (totals_of lanes m.all) c.args.bytes.now (Some c.in-Some.rule) nothing (not-not c.is_empty.result ∙ c.is_empty.ensures) broken in
    let is : record { shard = c.args.subject.now.header.shards; row = c.args.next; rule = c.in-Some.rule } ≡ c.at.result = cc in
    found ∙ ap (λ (r : Refusal). Err r) is

pub returns-in-None : goal.returns-in-None
returns-in-None g c =
    let lanes = g.L.Lanes.lanes in
    let m = c.args.self.now in
    let nothing : Bool = not (not c.is_empty.result) in
    let broken = ap (λ (h : Header). first_broken (end_checks h m.place (totals_of lanes m.all) nothing)) (sym c.header-header.ensures.value) ∙ ap (λ (z : Sums). first_broken (end_checks c.header-header.result.now m.place z nothing)) (sym c.sums-all.ensures) ∙ sym c.broken_end.ensures ∙ c.in-None.is in
    end-found lanes c.args.subject.now c.args.next c.args.before m.place (totals_of lanes m.all) c.args.bytes.now None nothing (not-not c.is_empty.result ∙ c.is_empty.ensures) broken
