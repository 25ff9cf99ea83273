use Rattle.std.proofs.Common.{◌-◌, true, take, drop, length, sym, subst}
use Rattle.rv_file.proofs.Lemmas.{unless-ok}
use Rattle.rv_rules.specs.Sums.{tiny_lanes}
use Rattle.rv_rules.specs.Reading.{header_of, header_checks}
use Rattle.rv_judge.proofs.Headers.{opened-comes, front-not-short, front-refuses, header-within}
use Rattle.rv_judge.proofs.ReadingOn.{behind}
use Rattle.rv_judge.proofs.WholeFile.{opened-waits}
use Rattle.rv_judge.specs.Subject.{IsWithin}
use Rattle.rv_base.specs.declared.record.Header.{Header}
use Rattle.rv_judge.specs.Phases.{phase_of}
use Rattle.rv_judge.proofs.pieces.opened.Goals as goal

pub new-subject-requires : goal.new-subject-requires
new-subject-requires c =
    let p = c.args.program.now in
    let front = c.args.front.now in
    let read = unless-ok 0 0 (header_checks true tiny_lanes p.elf p.input front) (header_of front) c.in-Ok.header (sym (c.in-Ok.ensures.exact tiny_lanes)) in
    subst (λ (h : Header). IsWithin h) read.1 (header-within tiny_lanes p.elf p.input front read.0)

pub returns-in-Ok-clause-is : goal.returns-in-Ok-clause-is
returns-in-Ok-clause-is c = λ lanes. record { fits = c.first.ensures.fits; waits = opened-waits lanes c.new-subject.result (phase_of lanes c.first.result) c.new.result.items (c.first.ensures.phase lanes) c.new.ensures }

pub returns-in-Ok-clause-comes : goal.returns-in-Ok-clause-comes
returns-in-Ok-clause-comes c = λ lanes rest.
    let p = c.args.program.now in
    let front = c.args.front.now in
    opened-comes lanes p.elf p.input front c.in-Ok.header (take (length front - 173) (drop 173 front)) c.new-subject.result (phase_of lanes c.first.result) c.new.result.items c.requires (sym (c.in-Ok.ensures.exact lanes))
    (behind 173 front) c.new-subject.ensures (c.first.ensures.phase lanes) c.new.ensures rest

pub returns-in-Err-clause-is : goal.returns-in-Err-clause-is
returns-in-Err-clause-is c = λ lanes.
    let p = c.args.program.now in
    front-not-short lanes p.elf p.input c.args.front.now c.requires c.in-Err.refusal (sym (c.in-Err.ensures.exact lanes))

pub returns-in-Err-clause-comes : goal.returns-in-Err-clause-comes
returns-in-Err-clause-comes c = λ lanes rest.
    let p = c.args.program.now in
    front-refuses lanes p.elf p.input c.args.front.now c.requires c.in-Err.refusal (sym (c.in-Err.ensures.exact lanes)) rest
