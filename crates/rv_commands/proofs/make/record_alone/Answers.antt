use Rattle.rv_commands.specs.Commands.{make_words}
use Rattle.rv_commands.proofs.Making.{has-pieces, within-task}
use Rattle.rv_commands.proofs.make.record_alone.Goals as goal

pub run_one-requires-clause-bound : goal.run_one-requires-clause-bound
run_one-requires-clause-bound g c = λ κs lives. within-task (make_words c.args.words.now) c.args.loaded.now.elf c.args.loaded.now.input c.args.points.now _ _ c.shards.result c.requires.due c.shards.ensures.value

pub write_record-requires-clause-has : goal.write_record-requires-clause-has
write_record-requires-clause-has g c = λ κs lives. has-pieces (make_words c.args.words.now) c.args.loaded.now.elf c.args.loaded.now.input c.args.points.now _ _ _ c.shards.result c.requires.due c.shards.ensures.value c.in-Ok.ensures.whole
