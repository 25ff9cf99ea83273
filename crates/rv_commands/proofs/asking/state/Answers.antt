use Rattle.std.proofs.Common.{◌≡◌, IfOk}
use Rattle.rv_plan.proofs.Lemmas.{handed-on, image-refused}
use Rattle.rv_spec.specs.Digest.{sha_lanes}
use Rattle.rv_rules.specs.Verdict.{judge}
use Rattle.rv_commands.specs.Asking.{TellsAnswer}
use Rattle.rv_commands.specs.Commands.{state_words}
use Rattle.rv_commands.specs.Headline.{StateAnswered}
use Rattle.rv_commands.specs.Outcome.{asked, question_plan, state_text}
use Rattle.rv_commands.proofs.Asked.{question-read, question-unread, state-told}
use Rattle.rv_commands.proofs.Checking.{of-loaded}
use Rattle.rv_commands.proofs.asking.state.Goals as goal

pub returns-in_err-loaded-clause-performs : goal.returns-in_err-loaded-clause-performs
returns-in_err-loaded-clause-performs g c =
    let w = state_words c.args.words.now in
    rw (handed-on c.from_residual.result c.in_err-loaded.field-0.0 c.from_residual.ensures.1) (c.in_err-loaded.ensures (question_plan w.file (state_text w)))

pub returns-in_err-program-clause-performs : goal.returns-in_err-program-clause-performs
returns-in_err-program-clause-performs g c =
    let w = state_words c.args.words.now in
    rw (handed-on c.from_residual-in_err-program.result c.in_err-program.field-0.0 c.from_residual-in_err-program.ensures.1)
    (image-refused w.elf w.input _ _ c.in_ok-loaded.loaded (question_plan w.file (state_text w)) c.in_err-program.field-0.0 c.in_ok-loaded.ensures c.in_err-program.ensures.fault)

pub returns-in_err-file-clause-performs : goal.returns-in_err-file-clause-performs
returns-in_err-file-clause-performs g c =
    let w = state_words c.args.words.now in
    rw (handed-on c.from_residual-in_err-file.result c.in_err-file.field-0.0 c.from_residual-in_err-file.ensures.1)
    (question-unread w.elf w.input w.file (state_text w) _ _ _ c.in_ok-loaded.loaded c.in_err-file.field-0.0 c.in_ok-loaded.ensures c.in_ok-program.ensures.faultless c.in_err-file.ensures)

pub returns-clause-performs : goal.returns-clause-performs
returns-clause-performs g c =
    let w = state_words c.args.words.now in
    let l = c.in_ok-loaded.loaded in
    question-read w.elf w.input w.file (state_text w) _ _ _ l c.in_ok-file.file c.tell_state.result c.in_ok-loaded.ensures c.in_ok-program.ensures.faultless c.in_ok-file.ensures
    (of-loaded (λ elf input file. TellsAnswer (asked (state_text w elf) (judge sha_lanes elf input file)) c.tell_state.result) c.in_ok-program.program l.elf l.input c.in_ok-file.file c.list.result.now c.in_ok-program.ensures.files c.list.ensures c.tell_state.ensures.tells)

pub returns-clause-headline : goal.returns-clause-headline
returns-clause-headline g c =
    let w = state_words c.args.words.now in
    let l = c.in_ok-loaded.loaded in
    state-told w _ _ l c.in_ok-file.file c.tell_state.result c.in_ok-loaded.ensures c.in_ok-file.ensures.2
    (of-loaded (λ elf input file. IfOk c.tell_state.result (λ told. told.status ≡ 0 → StateAnswered elf input file w)) c.in_ok-program.program l.elf l.input c.in_ok-file.file c.list.result.now c.in_ok-program.ensures.files c.list.ensures c.tell_state.ensures.of_run)
