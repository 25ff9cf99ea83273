use Rattle.rv_parts.proofs.CutPartLaws.{cut-parts-tell}
use Rattle.rv_parts.proofs.laws.cut_parts_tell_the_verdict.Goals as goal

pub returns : goal.returns
returns c = cut-parts-tell
