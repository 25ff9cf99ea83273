use Rattle.std.proofs.Common.{arith, ◌∙◌}
use Rattle.rv_commands.proofs.pipe.ended_of.Goals as goal

pub returns-clause-ended : goal.returns-clause-ended
returns-clause-ended c = record {
  ends = c.requires.ends;
  within = c.requires.within;
  shards = c.requires.shards;
  few = omega (arith, c.requires.few, c.requires.shards);
  consumed = c.requires.consumed;
  output = c.list.ensures ∙ c.requires.output;
  table = c.list-2.ensures ∙ c.requires.table;
}
