use Rattle.std.proofs.Common.{◌≡◌}
use Rattle.rv_spec.specs.Digest.{sha_lanes}
use Rattle.rv_rules.specs.Verdict.{verdict}
use Rattle.rv_judge.specs.Conclusions.{IsSound}
use Rattle.rv_plan.proofs.Lemmas.{handed-on, image-refused}
use Rattle.rv_commands.specs.Commands.{check_words}
use Rattle.rv_commands.specs.Outcome.{check_plan}
use Rattle.rv_commands.proofs.Checking.{check-accepted, of-loaded, several, team-judged, team-unread}
use Rattle.rv_commands.proofs.check.check_by_team.Goals as goal

pub returns-in_err-loaded-clause-performs : goal.returns-in_err-loaded-clause-performs
returns-in_err-loaded-clause-performs g c =
    rw (handed-on c.from_residual.result c.in_err-loaded.field-0.0 c.from_residual.ensures.1) (c.in_err-loaded.ensures (check_plan (check_words c.args.words.now)))

pub returns-in_err-program-clause-performs : goal.returns-in_err-program-clause-performs
returns-in_err-program-clause-performs g c =
    let w = check_words c.args.words.now in
    rw (handed-on c.from_residual-in_err-program.result c.in_err-program.field-0.0 c.from_residual-in_err-program.ensures.1)
    (image-refused w.elf w.input _ _ c.in_ok-loaded.loaded (check_plan w) c.in_err-program.field-0.0 c.in_ok-loaded.ensures c.in_err-program.ensures.fault)

pub returns-in_err-file-clause-performs : goal.returns-in_err-file-clause-performs
returns-in_err-file-clause-performs g c =
    let w = check_words c.args.words.now in
    rw (handed-on c.from_residual-in_err-file.result c.in_err-file.field-0.0 c.from_residual-in_err-file.ensures.1)
    (team-unread w _ _ _ c.in_ok-loaded.loaded c.in_err-file.field-0.0 (several w.workers c.requires.workers.0 c.if-words-eq1.false) c.in_ok-loaded.ensures c.in_ok-program.ensures.faultless c.in_err-file.ensures)

pub returns-clause-performs : goal.returns-clause-performs
returns-clause-performs g c =
    let w = check_words c.args.words.now in
    let l = c.in_ok-loaded.loaded in
    let is = of-loaded (λ elf input file. c.in-Ok.verdict ≡ verdict sha_lanes elf input file) c.in_ok-program.program l.elf l.input c.in_ok-file.file c.list.result.now c.in_ok-program.ensures.files c.list.ensures c.in-Ok.ensures.verdict in
    team-judged w _ _ _ l c.in_ok-file.file c.in-Ok.verdict c.tell_verdict.result (several w.workers c.requires.workers.0 c.if-words-eq1.false) c.in_ok-loaded.ensures c.in_ok-program.ensures.faultless c.in_ok-file.ensures is c.tell_verdict.ensures

pub returns-clause-headline : goal.returns-clause-headline
returns-clause-headline g c =
    let w = check_words c.args.words.now in
    let l = c.in_ok-loaded.loaded in
    let sound = of-loaded (λ elf input file. IsSound sha_lanes elf input file c.in-Ok.verdict) c.in_ok-program.program l.elf l.input c.in_ok-file.file c.list.result.now c.in_ok-program.ensures.files c.list.ensures c.in-Ok.ensures.sound in
    check-accepted w _ _ l c.in_ok-file.file c.in-Ok.verdict c.tell_verdict.result c.in_ok-loaded.ensures c.in_ok-file.ensures.2 sound c.tell_verdict.ensures
