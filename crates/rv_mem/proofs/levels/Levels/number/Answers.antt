use Rattle.std.proofs.Common.{sym}
use Rattle.rv_mem.proofs.DirectoryLaws.{number-none, number-read}
use Rattle.rv_mem.proofs.levels.Levels.number.Goals as goal

pub returns-in-Some : goal.returns-in-Some
returns-in-Some c = sym (number-read _ _ c.args.page c.in-Some.leaf _ c.args.self.now.sound c.requires c.in-Some.ensures c.index.ensures)

pub returns-in-None : goal.returns-in-None
returns-in-None c = sym (number-none _ _ c.args.page c.in-None.ensures)
