use Rattle.rv_mem.proofs.WordsLaws.{word-none}
use Rattle.rv_mem.proofs.words.Words.new.Goals as goal

pub returns-clause-begun : goal.returns-clause-begun
returns-clause-begun c = λ w. word-none _ _ _ w (c.new.ensures _)
