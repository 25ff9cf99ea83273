use Rattle.std.proofs.Common.{◌%◌, ◌∙◌, ap}
use Rattle.rv_elf.proofs.HeaderLaws.{entry-aligned}
use Rattle.rv_elf.proofs.image.Image.entry.Goals as goal

pub returns-clause-aligned : goal.returns-clause-aligned
returns-clause-aligned c = ap (λ n. n % 4) c.self.invariant.entry_is ∙ entry-aligned c.self.inside.file.now c.self.invariant.faultless
