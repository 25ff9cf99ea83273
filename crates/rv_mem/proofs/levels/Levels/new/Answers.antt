use Rattle.std.proofs.Common.{◌/◌}
use Rattle.rv_mem.proofs.DirectoryLaws.{number-none}
use Rattle.rv_mem.proofs.levels.Levels.new.Goals as goal

pub returns : goal.returns
returns c = λ page. number-none _ _ page (c.new.ensures (page / 256))
