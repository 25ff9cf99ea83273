use Rattle.rv_lanes.proofs.LaneLemmas.{shifts}
use Rattle.rv_lanes.proofs.functions.shift_right.Goals as goal

pub returns : goal.returns
returns c = shifts c.args.k c.args.x c.fits-x.0
