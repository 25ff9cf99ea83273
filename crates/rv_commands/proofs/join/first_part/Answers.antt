use Rattle.rv_commands.specs.Commands.{join_words}
use Rattle.rv_commands.proofs.Joining.{first-read}
use Rattle.rv_commands.proofs.join.first_part.Goals as goal

pub returns : goal.returns
returns g c =
    first-read (join_words c.args.words.now) c.args.program.now.elf c.args.program.now.input _ _ c.in_ok-file.file c.list.result.now c.begin.result c.in_ok-file.ensures c.list.ensures c.begin.ensures
