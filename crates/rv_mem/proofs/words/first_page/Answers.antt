use Rattle.std.proofs.Common.{length-set, ◌∙◌}
use Rattle.rv_mem.proofs.WordsLaws.{next-first}
use Rattle.rv_mem.proofs.words.first_page.Goals as goal

pub loop-i-preserved : goal.loop-i-preserved
loop-i-preserved c = record {
  full = length-set _ _ _ ∙ c.loop-i.invariant.full;
  begun = next-first _ _ _ _ _ c.loop-i-test.true c.loop-i.invariant.full c.requires c.word.ensures c.loop-i.invariant.begun;
}
