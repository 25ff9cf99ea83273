use Rattle.std.proofs.Common.{[], ◌∷◌, ◌++◌, ◌∙◌, ap, append_assoc}
use Rattle.rv_spec.specs.Digest.{digest, sha_lanes}
use Rattle.rv_lanes.proofs.MoreTuples.{digest-added}
use Rattle.rv_lanes.proofs.sums.add_two.Goals as goal

pub returns : goal.returns
returns c = λ ts before.
    let one = digest-added sha_lanes ts c.args.t c.add_lanes.ensures c.lanes_of_two.ensures.first before in
    digest-added sha_lanes (ts ++ c.args.t ∷ []) c.args.u c.add_lanes-2.ensures c.lanes_of_two.ensures.second one
    ∙ ap (digest sha_lanes) (append_assoc ts (c.args.t ∷ []) (c.args.u ∷ []))
