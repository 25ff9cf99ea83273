use Rattle.rv_parts.proofs.CutLaws.{parts-are-file}
use Rattle.rv_parts.proofs.laws.parts_are_the_file.Goals as goal

pub returns : goal.returns
returns c = parts-are-file
