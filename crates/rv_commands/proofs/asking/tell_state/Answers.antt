use Rattle.std.proofs.Common.{ap, refl}
use Rattle.rv_base.specs.declared.record.Header.{Header}
use Rattle.rv_spec.specs.Digest.{sha_lanes}
use Rattle.rv_spec.specs.Record.{all_rows}
use Rattle.rv_spec.specs.Run.{run}
use Rattle.rv_rules.specs.Verdict.{judge}
use Rattle.rv_query.specs.Questions.{state_answer, state_seen, image_of, snapshot}
use Rattle.rv_commands.specs.Commands.{state_words}
use Rattle.rv_commands.specs.Lines.{state_lines}
use Rattle.rv_commands.specs.Outcome.{state_text}
use Rattle.rv_commands.proofs.Asked.{answers-of-run, denied-fails, tells-denied, tells-no-step, tells-text}
use Rattle.rv_commands.proofs.asking.tell_state.Goals as goal

pub returns-in-Err-clause-tells : goal.returns-in-Err-clause-tells
returns-in-Err-clause-tells c =
    let p = c.args.program.now in
    tells-denied (state_text (state_words c.args.words.now) p.elf) (judge sha_lanes p.elf p.input c.args.file.now) c.in-Err.refusal c.deny.result c.in-Err.ensures.judged c.deny.ensures

pub returns-in-Err-clause-of_run : goal.returns-in-Err-clause-of_run
returns-in-Err-clause-of_run c = denied-fails _ c.in-Err.refusal c.deny.result c.deny.ensures

pub returns-in_default-clause-tells : goal.returns-in_default-clause-tells
returns-in_default-clause-tells c =
    let w = state_words c.args.words.now in
    let elf = c.args.program.now.elf in
    tells-no-step (state_lines w.step) (λ p. state_answer elf p w.step) (judge sha_lanes elf c.args.program.now.input c.args.file.now) c.in-Ok.parsed c.header.result.steps c.in-Ok.ensures.judged c.in_default.ensures.exact (ap (λ (h : Header). h.steps) c.header.ensures)

pub returns-clause-tells : goal.returns-clause-tells
returns-clause-tells c =
    let w = state_words c.args.words.now in
    let elf = c.args.program.now.elf in
    tells-text (state_lines w.step) (λ p. state_answer elf p w.step) (judge sha_lanes elf c.args.program.now.input c.args.file.now) c.in-Ok.parsed c.in-Some.seen (record { status = 0; text = c.in-Ok-state_lines.text }) c.in-Ok.ensures.judged c.in-Some.ensures.exact refl c.in-Ok-state_lines.ensures

pub returns-clause-of_run : goal.returns-clause-of_run
returns-clause-of_run c = λ _.
    let w = state_words c.args.words.now in
    let elf = c.args.program.now.elf in
    let input = c.args.program.now.input in
    let file = c.args.file.now in
    answers-of-run elf input file w.step (state_lines w.step) (λ p. state_seen (image_of elf p) (all_rows p) w.step) c.in-Ok.parsed c.in-Some.seen (snapshot (run (image_of elf c.in-Ok.parsed) input w.step)) (λ p. state_lines w.step (snapshot (run (image_of elf p) input w.step))) c.in-Ok.ensures.accepts c.in-Ok.ensures.judged c.in-Some.ensures.exact
    (c.in-Some.ensures.of_run sha_lanes file c.in-Ok.ensures.accepts) refl
