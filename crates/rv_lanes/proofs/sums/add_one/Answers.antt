use Rattle.rv_spec.specs.Digest.{sha_lanes}
use Rattle.rv_lanes.proofs.MoreTuples.{digest-added}
use Rattle.rv_lanes.proofs.sums.add_one.Goals as goal

pub returns : goal.returns
returns c = λ ts before. digest-added sha_lanes ts c.args.t c.add_lanes.ensures c.lanes_of_two.ensures.first before
