use Rattle.rv_commands.specs.Commands.{make_words}
use Rattle.rv_commands.proofs.Making.{surveyed}
use Rattle.rv_commands.proofs.make.ended_of.Goals as goal

pub returns-clause-ended : goal.returns-clause-ended
returns-clause-ended c =
    surveyed (make_words c.args.words.now) c.args.loaded.now.elf c.args.loaded.now.input c.args.points.now _ c.requires c.steps.ensures.value c.shards.ensures.value c.end.ensures c.consumed.ensures c.output.ensures c.table.ensures
