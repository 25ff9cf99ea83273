use Rattle.std.proofs.Common.{ap, length}
use Rattle.rv_mem.proofs.BlocksLaws.{number-empty}
use Rattle.rv_mem.proofs.blocks.Blocks.new.Goals as goal

pub returns : goal.returns
returns c = λ block. number-empty _ block (ap length c.new.ensures.items)
