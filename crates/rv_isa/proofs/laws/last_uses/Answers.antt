use Rattle.rv_isa.proofs.LastUses.{holds-last-uses}
use Rattle.rv_isa.proofs.laws.last_uses.Goals as goal

pub returns : goal.returns
returns c = holds-last-uses
