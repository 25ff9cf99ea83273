use Rattle.rv_plan.proofs.Lemmas.{handed-on}
use Rattle.rv_commands.specs.Commands.{asm_words}
use Rattle.rv_commands.proofs.Assembling.{asm-assembled, asm-performs, asm-unread}
use Rattle.rv_commands.proofs.asm.asm.Goals as goal

pub returns-in_err-source-clause-performs : goal.returns-in_err-source-clause-performs
returns-in_err-source-clause-performs g c =
    rw (handed-on c.from_residual.result c.in_err-source.field-0.0 c.from_residual.ensures.1)
    (asm-unread (asm_words c.args.words.now) _ _ c.in_err-source.field-0.0 c.in_err-source.ensures)

pub returns-clause-performs : goal.returns-clause-performs
returns-clause-performs g c =
    asm-performs (asm_words c.args.words.now) _ _ _ c.in_ok-source.source c.list.result.now c.write_executable.result c.in_ok-source.ensures c.list.ensures c.write_executable.ensures

pub returns-clause-headline : goal.returns-clause-headline
returns-clause-headline g c =
    asm-assembled (asm_words c.args.words.now) _ _ _ c.in_ok-source.source c.list.result.now c.write_executable.result c.in_ok-source.ensures c.list.ensures c.write_executable.ensures
