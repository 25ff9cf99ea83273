use Rattle.std.proofs.Common.{arith}
use Rattle.rv_rules.proofs.Lemmas.{bytes-are}
use Rattle.rv_elf.proofs.ProgramLaws.{image-is}
use Rattle.rv_elf.proofs.image.loads_program.Goals as goal

pub returns : goal.returns
returns c version = image-is version c.args.file.now (bytes-are c.args.file.now (λ i. omega (arith, c.type_inv.file i))) c.requires
