use Rattle.rv_mem.proofs.DirectoryLaws.{number-entered, number-others}
use Rattle.rv_mem.proofs.levels.Levels.enter.Goals as goal

pub returns-clause-entered : goal.returns-clause-entered
returns-clause-entered c = number-entered _ _ c.args.page c.in-Some.leaf c.args.number c.args.self.now.sound c.requires.in_memory c.in-Some.ensures

pub returns-clause-others : goal.returns-clause-others
returns-clause-others c other within apart = number-others _ _ c.args.page c.in-Some.leaf c.args.number c.args.self.now.sound c.requires.in_memory c.in-Some.ensures other within apart
