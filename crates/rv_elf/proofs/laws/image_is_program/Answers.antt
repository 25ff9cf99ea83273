use Rattle.rv_elf.proofs.ProgramLaws.{image-is}
use Rattle.rv_elf.proofs.laws.image_is_program.Goals as goal

pub returns : goal.returns
returns c = image-is
