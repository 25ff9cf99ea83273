use Rattle.std.proofs.Common.{◌≡◌, sym, subst}
use Rattle.std.proofs.lemmas.Result.{IfOk-weaker}
use Rattle.rv_base.specs.declared.record.Verdict.{Verdict}
use Rattle.rv_rules.specs.Verdict.{verdict}
use Rattle.rv_judge.specs.Conclusions.{AcceptsRecords, IsSound}
use Rattle.rv_panel.proofs.checking.panel.Goals as goal

pub returns-clause-sound : goal.returns-clause-sound
returns-clause-sound g c =
    let lanes = g.L.Lanes.lanes in
    let p = c.args.program.now in
    let file = c.args.file.now in
    let is : Verdict → Type 0 = λ v. v ≡ verdict lanes p.elf p.input file in
    let sound : Verdict → Type 0 = IsSound lanes p.elf p.input file in
    IfOk-weaker c.verdict_by_team.result is sound (λ v e. subst sound (sym e) (c.concludes.ensures.sound lanes)) c.verdict_by_team.ensures

pub returns-clause-accepts : goal.returns-clause-accepts
returns-clause-accepts g c =
    let lanes = g.L.Lanes.lanes in
    let p = c.args.program.now in
    let file = c.args.file.now in
    let is : Verdict → Type 0 = λ v. v ≡ verdict lanes p.elf p.input file in
    let accepts : Verdict → Type 0 = AcceptsRecords lanes p.elf p.input file in
    IfOk-weaker c.verdict_by_team.result is accepts (λ v e. subst accepts (sym e) (c.concludes.ensures.accepts lanes)) c.verdict_by_team.ensures
