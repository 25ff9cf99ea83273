use Rattle.rv_parts.proofs.CutPartLaws.{cut-parts-have-no-fault}
use Rattle.rv_parts.proofs.laws.cut_parts_have_no_fault.Goals as goal

pub returns : goal.returns
returns c = cut-parts-have-no-fault
