use Rattle.rv_parts.proofs.HeadsOfParts.{heads-cover}
use Rattle.rv_parts.proofs.laws.heads_cover.Goals as goal

pub returns : goal.returns
returns c = heads-cover
