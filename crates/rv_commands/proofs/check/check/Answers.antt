use Rattle.std.proofs.Common.{Ok, Err}
use Rattle.std.proofs.lemmas.Bool.{le-ltb}
use Rattle.rv_plan.proofs.Lemmas.{handed-on, image-refused}
use Rattle.rv_commands.specs.Commands.{check_words}
use Rattle.rv_commands.specs.Outcome.{check_plan}
use Rattle.rv_commands.proofs.Checking.{check-accepted, check-judged, check-unjudged, judges-loaded}
use Rattle.rv_commands.proofs.check.check.Goals as goal

pub returns-in_err-loaded-clause-performs : goal.returns-in_err-loaded-clause-performs
returns-in_err-loaded-clause-performs g c =
    rw (handed-on c.from_residual.result c.in_err-loaded.field-0.0 c.from_residual.ensures.1) (c.in_err-loaded.ensures (check_plan (check_words c.args.words.now)))

pub returns-in_err-program-clause-performs : goal.returns-in_err-program-clause-performs
returns-in_err-program-clause-performs g c =
    let w = check_words c.args.words.now in
    rw (handed-on c.from_residual-in_err-program.result c.in_err-program.field-0.0 c.from_residual-in_err-program.ensures.1)
    (image-refused w.elf w.input _ _ c.in_ok-loaded.loaded (check_plan w) c.in_err-program.field-0.0 c.in_ok-loaded.ensures c.in_err-program.ensures.fault)

pub returns-in_err-verdict-clause-performs : goal.returns-in_err-verdict-clause-performs
returns-in_err-verdict-clause-performs g c =
    let w = check_words c.args.words.now in
    rw (handed-on c.from_residual-in_err-verdict.result c.in_err-verdict.field-0.0 c.from_residual-in_err-verdict.ensures.1)
    (check-unjudged w _ _ _ c.in_ok-loaded.loaded c.in_err-verdict.field-0.0 (le-ltb 1 w.workers c.requires.alone) c.in_ok-loaded.ensures c.in_ok-program.ensures.faultless
    (judges-loaded w.file c.in_ok-program.program c.in_ok-loaded.loaded.elf c.in_ok-loaded.loaded.input _ _ (Err c.in_err-verdict.field-0.0) c.in_ok-program.ensures.files c.in_err-verdict.ensures))

pub returns-clause-performs : goal.returns-clause-performs
returns-clause-performs g c =
    let w = check_words c.args.words.now in
    check-judged w _ _ _ c.in_ok-loaded.loaded c.in_ok-verdict.verdict c.tell_verdict.result (le-ltb 1 w.workers c.requires.alone) c.in_ok-loaded.ensures c.in_ok-program.ensures.faultless
    (judges-loaded w.file c.in_ok-program.program c.in_ok-loaded.loaded.elf c.in_ok-loaded.loaded.input _ _ (Ok c.in_ok-verdict.verdict) c.in_ok-program.ensures.files c.in_ok-verdict.ensures) c.tell_verdict.ensures

pub returns-clause-headline : goal.returns-clause-headline
returns-clause-headline g c =
    let w = check_words c.args.words.now in
    let judges = judges-loaded w.file c.in_ok-program.program c.in_ok-loaded.loaded.elf c.in_ok-loaded.loaded.input _ _ (Ok c.in_ok-verdict.verdict) c.in_ok-program.ensures.files c.in_ok-verdict.ensures in
    check-accepted w _ _ c.in_ok-loaded.loaded judges.1.0 c.in_ok-verdict.verdict c.tell_verdict.result c.in_ok-loaded.ensures judges.1.1 judges.1.3 c.tell_verdict.ensures
