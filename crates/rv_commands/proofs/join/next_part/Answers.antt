use Rattle.rv_plan.proofs.Lemmas.{handed-on}
use Rattle.rv_commands.specs.Commands.{join_words}
use Rattle.rv_commands.proofs.Joining.{part-read, part-unread}
use Rattle.rv_commands.proofs.join.next_part.Goals as goal

pub returns-in_err-file : goal.returns-in_err-file
returns-in_err-file g c =
    rw (handed-on c.from_residual.result c.in_err-file.field-0.0 c.from_residual.ensures.1)
    (part-unread (join_words c.args.words.now) c.args.program.now.elf c.args.program.now.input c.args.number c.args.joining.now c.args.joining.now _ _ c.in_err-file.field-0.0 c.in_err-file.ensures)

pub returns : goal.returns
returns g c =
    part-read (join_words c.args.words.now) c.args.program.now.elf c.args.program.now.input c.args.number c.args.joining.now c.add_file.new.joining _ _ c.in_ok-file.file c.list.result.now c.add_file.result c.in_ok-file.ensures c.list.ensures c.add_file.ensures
