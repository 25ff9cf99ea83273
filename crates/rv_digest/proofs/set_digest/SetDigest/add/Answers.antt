use Rattle.std.proofs.Common.{sym, ◌∙◌}
use Rattle.rv_rules.specs.Sums.{add_lanes}
use Rattle.rv_rules.proofs.Lemmas.{digest-append}
use Rattle.rv_digest.proofs.set_digest.SetDigest.add.Goals as goal

pub returns-clause-of_list : goal.returns-clause-of_list
returns-clause-of_list c = λ lanes xs ys of_mine of_theirs.
    c.add_lanes.ensures ∙ (λ i. add_lanes (of_mine i) (of_theirs i)) ∙ sym (digest-append lanes xs ys)
