use Rattle.rv_asm.proofs.StatementLaws.{statements-held}
use Rattle.rv_asm.proofs.laws.statements_are_held.Goals as goal

pub returns : goal.returns
returns c = λ source words image assembled holds. statements-held source words image assembled holds
