use Rattle.rv_spec.specs.Digest.{sha_lanes}
use Rattle.rv_settle.specs.Settling.{IsSettled}
use Rattle.rv_plan.proofs.Lemmas.{handed-on, image-refused}
use Rattle.rv_commands.specs.Commands.{settle_words}
use Rattle.rv_commands.specs.Outcome.{settle_plan}
use Rattle.rv_commands.proofs.Checking.{of-loaded, settle-run, settle-settled, settle-unread}
use Rattle.rv_commands.proofs.settle.settle.Goals as goal

pub returns-in_err-loaded-clause-performs : goal.returns-in_err-loaded-clause-performs
returns-in_err-loaded-clause-performs g c =
    let w = settle_words c.args.words.now in
    rw (handed-on c.from_residual.result c.in_err-loaded.field-0.0 c.from_residual.ensures.1) (c.in_err-loaded.ensures (settle_plan w))

pub returns-in_err-program-clause-performs : goal.returns-in_err-program-clause-performs
returns-in_err-program-clause-performs g c =
    let w = settle_words c.args.words.now in
    rw (handed-on c.from_residual-in_err-program.result c.in_err-program.field-0.0 c.from_residual-in_err-program.ensures.1)
    (image-refused w.elf w.input _ _ c.in_ok-loaded.loaded (settle_plan w) c.in_err-program.field-0.0 c.in_ok-loaded.ensures c.in_err-program.ensures.fault)

pub returns-in_err-file-clause-performs : goal.returns-in_err-file-clause-performs
returns-in_err-file-clause-performs g c =
    let w = settle_words c.args.words.now in
    rw (handed-on c.from_residual-in_err-file.result c.in_err-file.field-0.0 c.from_residual-in_err-file.ensures.1)
    (settle-unread w _ _ _ c.in_ok-loaded.loaded c.in_err-file.field-0.0 c.in_ok-loaded.ensures c.in_ok-program.ensures.faultless c.in_err-file.ensures)

pub returns-clause-performs : goal.returns-clause-performs
returns-clause-performs g c =
    let w = settle_words c.args.words.now in
    settle-settled w _ _ _ c.in_ok-loaded.loaded c.in_ok-file.file c.in-Ok.settled c.tell_settled.result c.in_ok-loaded.ensures c.in_ok-program.ensures.faultless c.in_ok-file.ensures
    (of-loaded (λ elf input file. IsSettled sha_lanes elf input file c.in-Ok.settled) c.in_ok-program.program c.in_ok-loaded.loaded.elf c.in_ok-loaded.loaded.input c.in_ok-file.file c.list.result.now c.in_ok-program.ensures.files c.list.ensures c.in-Ok.ensures)
    c.tell_settled.ensures

pub returns-clause-headline : goal.returns-clause-headline
returns-clause-headline g c =
    let w = settle_words c.args.words.now in
    settle-run w _ _ _ c.in_ok-loaded.loaded c.in_ok-file.file c.in-Ok.settled c.tell_settled.result c.in_ok-loaded.ensures c.in_ok-file.ensures
    (of-loaded (λ elf input file. IsSettled sha_lanes elf input file c.in-Ok.settled) c.in_ok-program.program c.in_ok-loaded.loaded.elf c.in_ok-loaded.loaded.input c.in_ok-file.file c.list.result.now c.in_ok-program.ensures.files c.list.ensures c.in-Ok.ensures)
    c.tell_settled.ensures
