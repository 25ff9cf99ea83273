use Rattle.std.proofs.Common.{sym, ◌∙◌, ap}
use Rattle.rv_rules.specs.Sums.{add_lanes}
use Rattle.rv_spec.specs.Digest.{digest}
use Rattle.rv_rules.proofs.Lemmas.{digest-append}
use Rattle.rv_digest.proofs.set_digest.SetDigest.add_tuples.Goals as goal

pub returns-clause-sum : goal.returns-clause-sum
returns-clause-sum g c = c.add.ensures.sum ∙ ap (add_lanes c.args.self.now.lanes) c.sum_of.ensures

pub returns-clause-of_list : goal.returns-clause-of_list
returns-clause-of_list g c = λ ts before.
    returns-clause-sum g c
    ∙ (λ i. add_lanes (before i) (digest g.L.Lanes.lanes c.args.tuples.now))
    ∙ sym (digest-append g.L.Lanes.lanes ts c.args.tuples.now)
