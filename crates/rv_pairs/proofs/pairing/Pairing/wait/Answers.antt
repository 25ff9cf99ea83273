use Rattle.std.proofs.Common.{rules, ◌≡◌, ◌∙◌, List, [], ◌∷◌, ℕ, length, take, refl, ap, arith}
use Rattle.rv_pairs.specs.Covers.{joined, read_digest, total, with_tuples, written_digest}
use Rattle.rv_pairs.proofs.LaneSums.{joined-left}
use Rattle.rv_pairs.proofs.Waiting.{one-before, one-behind}
use Rattle.rv_pairs.proofs.pairing.Pairing.wait.Goals as goal

pub returns-then-self-lt-PLACES-clause-reads : goal.returns-then-self-lt-PLACES-clause-reads
unfolding read_digest
returns-then-self-lt-PLACES-clause-reads g c = refl

pub returns-then-self-lt-PLACES-clause-writes : goal.returns-then-self-lt-PLACES-clause-writes
unfolding written_digest
returns-then-self-lt-PLACES-clause-writes g c =
    let p = c.args.self.now in
    let lanes = g.L.Lanes.lanes in
    let long : length p.waiting ≡ 1056 = search rules in
    one-behind lanes (joined (total lanes p.writes) (total lanes p.both)) p.waiting p.count c.args.written (omega (arith, c.if-self-lt-PLACES.true, long))

pub returns-else-self-lt-PLACES-clause-reads : goal.returns-else-self-lt-PLACES-clause-reads
unfolding read_digest
returns-else-self-lt-PLACES-clause-reads g c = refl

pub returns-else-self-lt-PLACES-clause-writes : goal.returns-else-self-lt-PLACES-clause-writes
unfolding written_digest
returns-else-self-lt-PLACES-clause-writes g c =
    let p = c.args.self.now in
    let lanes = g.L.Lanes.lanes in
    let waits = take p.count p.waiting in
    ap (λ (z : List ℕ). with_tuples lanes (joined z (total lanes p.both)) waits) c.add.ensures
    ∙ ap (λ (z : List ℕ). with_tuples lanes z waits) (joined-left lanes (total lanes p.writes) (total lanes p.both) (c.args.written ∷ []))
    ∙ one-before lanes (joined (total lanes p.writes) (total lanes p.both)) waits c.args.written
