use Rattle.rv_lanes.proofs.Lemmas.{digest-added}
use Rattle.rv_digest.proofs.set_digest.SetDigest.add_tuple.Goals as goal

pub returns-clause-of_list : goal.returns-clause-of_list
returns-clause-of_list g c = λ ts before. digest-added g.L.Lanes.lanes ts c.args.t c.add.ensures.sum c.of.ensures before
