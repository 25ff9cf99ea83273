use Rattle.std.proofs.Common.{rules, sym, ◌∙◌}
use Rattle.rv_rules.proofs.Lemmas.{digest-same}
use Rattle.rv_digest.proofs.set_digest.SetDigest.same.Goals as goal

pub returns-clause-equal : goal.returns-clause-equal
returns-clause-equal c = search rules

pub returns-clause-one_multiset : goal.returns-clause-one_multiset
returns-clause-one_multiset c = λ lanes xs ys one of_mine of_theirs.
    (returns-clause-equal c).1 (of_mine ∙ digest-same lanes xs ys one ∙ sym of_theirs)
