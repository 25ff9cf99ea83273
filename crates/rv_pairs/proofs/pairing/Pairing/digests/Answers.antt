use Rattle.std.proofs.Common.{◌∙◌, take}
use Rattle.rv_rules.specs.Sums.{add_lanes}
use Rattle.rv_spec.specs.Digest.{digest}
use Rattle.rv_pairs.specs.Covers.{joined, read_digest, with_tuples, written_digest}
use Rattle.rv_pairs.proofs.pairing.Pairing.digests.Goals as goal

pub returns-clause-reads : goal.returns-clause-reads
unfolding read_digest joined
returns-clause-reads g c = c.add.ensures.sum ∙ (λ i. add_lanes (c.total-read.ensures i) (c.total-shared.ensures i))

pub returns-clause-writes : goal.returns-clause-writes
unfolding written_digest joined with_tuples
returns-clause-writes g c =
    let p = c.args.self.now in
    c.add_tuples.ensures.sum
    ∙ (λ i. add_lanes (c.add-2.ensures.sum i) (digest g.L.Lanes.lanes (take p.count p.waiting)))
    ∙ (λ i. add_lanes (add_lanes (c.total-written.ensures i) (c.total-shared.ensures i)) (digest g.L.Lanes.lanes (take p.count p.waiting)))
