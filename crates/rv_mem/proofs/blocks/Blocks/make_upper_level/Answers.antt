use Rattle.rv_mem.proofs.BlocksLaws.{number-kept}
use Rattle.rv_mem.proofs.blocks.Blocks.make_upper_level.Goals as goal

pub returns-clause-same : goal.returns-clause-same
returns-clause-same c = λ other. number-kept _ _ c.grow.ensures.empty other
