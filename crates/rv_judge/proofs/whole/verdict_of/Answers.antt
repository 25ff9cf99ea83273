use Rattle.std.proofs.Common.{◌≡◌, ◌∙◌, ◌-◌, List, ℕ, true, take, drop, length, ap, sym, subst}
use Rattle.rv_base.specs.declared.record.Header.{Header}
use Rattle.rv_file.proofs.Lemmas.{unless-ok}
use Rattle.rv_rules.specs.Reading.{header_of, header_checks}
use Rattle.rv_judge.specs.Subject.{IsWithin}
use Rattle.rv_judge.specs.Phases.{phase_of}
use Rattle.rv_judge.proofs.Headers.{file-refuses, header-within, whole-comes}
use Rattle.rv_judge.proofs.ReadingOn.{behind}
use Rattle.rv_judge.proofs.WholeFile.{ends}
use Rattle.rv_judge.proofs.whole.verdict_of.Goals as goal

pub new-subject-requires : goal.new-subject-requires
new-subject-requires g c =
    let p = c.args.program.now in
    let file = c.args.file.now in
    let lanes = g.L.Lanes.lanes in
    let read = unless-ok 0 0 (header_checks true lanes p.elf p.input file) (header_of file) c.in-Ok.header (sym (c.in-Ok.ensures.exact lanes)) in
    subst (λ (h : Header). IsWithin h) read.1 (header-within lanes p.elf p.input file read.0)

pub returns-in-Ok : goal.returns-in-Ok
returns-in-Ok g c =
    let p = c.args.program.now in
    let file = c.args.file.now in
    let lanes = g.L.Lanes.lanes in
    let h = c.in-Ok.header in
    let s = c.new-subject.result in
    let behind-header : take (length file - 173) (drop 173 file) ≡ drop 173 file = behind 173 file in
    c.verdict_on.ensures
    ∙ sym (ends lanes s (phase_of lanes c.first-machine.result) (phase_of lanes c.read-stop.new.self) c.split_at.result.1.now c.read-stop.result.left.now c.read-stop.result.refusal c.read-stop.ensures.stops c.read-stop.ensures.goes h)
    ∙ whole-comes lanes p.elf p.input file h c.split_at.result.0.now c.split_at.result.1.now s (phase_of lanes c.first-machine.result) (sym (c.in-Ok.ensures.exact lanes))
    (c.split_at.ensures.front ∙ ap (λ (z : List ℕ). take h.length z) behind-header) (c.split_at.ensures.back ∙ ap (λ (z : List ℕ). drop h.length z) behind-header) c.new-subject.ensures (c.first-machine.ensures.phase lanes)

pub returns-in-Err : goal.returns-in-Err
returns-in-Err g c =
    let p = c.args.program.now in
    file-refuses g.L.Lanes.lanes p.elf p.input c.args.file.now c.in-Err.refusal (sym (c.in-Err.ensures.exact g.L.Lanes.lanes))
