use Rattle.std.proofs.Common.{rules, ◌≡◌, ◌∙◌, ◌<◌, List, [], ◌∷◌, ℕ, length, get_or, set, take, refl, sym, ap, arith}
use Rattle.rv_base.specs.declared.record.Tuple.{Tuple}
use Rattle.rv_pairs.specs.Covers.{joined, read_digest, total, with_tuples, written_digest}
use Rattle.rv_pairs.proofs.LaneSums.{joined-left, joined-right}
use Rattle.rv_pairs.proofs.Waiting.{one-instead}
use Rattle.rv_pairs.proofs.pairing.Pairing.access.Goals.{then-eq, else-eq}
use Rattle.rv_pairs.proofs.pairing.Pairing.access.Goals as goal

pub returns-after-eq-clause-reads : goal.returns-after-eq-clause-reads
unfolding read_digest
returns-after-eq-clause-reads g c =
    let p = c.args.self.now in
    let lanes = g.L.Lanes.lanes in
    let t = c.args.read ∷ [] in
    elim c.if-eq.branch [
      | then-eq w ↦ rw w.self-is (ap (λ (z : List ℕ). joined (total lanes p.reads) z) w.add.ensures ∙ joined-right lanes (total lanes p.reads) (total lanes p.both) t)
      | else-eq w ↦ rw w.self-is (ap (λ (z : List ℕ). joined z (total lanes p.both)) w.add-else-eq-2.ensures ∙ joined-left lanes (total lanes p.reads) (total lanes p.both) t)
    ]

pub returns-after-eq-clause-writes : goal.returns-after-eq-clause-writes
unfolding written_digest
returns-after-eq-clause-writes g c =
    let p = c.args.self.now in
    let lanes = g.L.Lanes.lanes in
    let long : length p.waiting ≡ 1056 = search rules in
    let at = c.in-Some.at in
    let writes = total lanes p.writes in
    let both = total lanes p.both in
    let now = take p.count (set p.waiting at c.args.written) in
    let below : at < p.count = omega (arith, c.in-Some.ensures) in
    let inside : at < length p.waiting = omega (arith, below, p.few, long) in
    elim c.if-eq.branch [
      | then-eq w ↦
          let d : Tuple = record { cell = 0; value = 0; time = 0 } in
          let same : get_or p.waiting at d ≡ c.args.read = search rules in
          rw w.self-is (
          ap (λ (z : List ℕ). with_tuples lanes (joined writes z) now) w.add.ensures
          ∙ ap (λ (z : List ℕ). with_tuples lanes z now) (joined-right lanes writes both (c.args.read ∷ []))
          ∙ one-instead lanes (joined writes both) p.waiting p.count at c.args.read c.args.written _ below inside (sym same)
          )
      | else-eq w ↦
          rw w.self-is (
          ap (λ (z : List ℕ). with_tuples lanes (joined z both) now) w.add-else-eq.ensures
          ∙ ap (λ (z : List ℕ). with_tuples lanes z now) (joined-left lanes writes both _)
          ∙ one-instead lanes (joined writes both) p.waiting p.count at _ c.args.written _ below inside refl
          )
    ]

pub returns-in-None-clause-reads : goal.returns-in-None-clause-reads
unfolding read_digest
returns-in-None-clause-reads g c =
    let p = c.args.self.now in
    let lanes = g.L.Lanes.lanes in
    c.wait.ensures.reads ∙ ap (λ (z : List ℕ). joined z (total lanes p.both)) c.add-in-None.ensures ∙ joined-left lanes (total lanes p.reads) (total lanes p.both) (c.args.read ∷ [])

pub returns-in-None-clause-writes : goal.returns-in-None-clause-writes
unfolding written_digest
returns-in-None-clause-writes g c = c.wait.ensures.writes
