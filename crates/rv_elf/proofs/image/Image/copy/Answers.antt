use Rattle.std.proofs.Common.{subst}
use Rattle.rv_rules.specs.Agreement.{IsProgram}
use Rattle.rv_elf.proofs.image.Image.copy.Goals as goal

pub returns-clause-program : goal.returns-clause-program
returns-clause-program c = subst IsProgram c.self.view_is (c.loads_program.ensures c.self.inside.version)
