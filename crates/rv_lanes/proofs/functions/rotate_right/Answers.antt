use Rattle.rv_lanes.proofs.LaneLemmas.{shifts-rotate}
use Rattle.rv_lanes.proofs.functions.rotate_right.Goals as goal

pub returns : goal.returns
returns c = shifts-rotate c.args.k c.requires.0 c.requires.1 c.args.x c.fits-x.0
