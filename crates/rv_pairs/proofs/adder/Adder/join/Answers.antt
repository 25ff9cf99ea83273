use Rattle.std.proofs.Common.{◌∙◌, List, ℕ, ap, sym, take}
use Rattle.rv_pairs.specs.Covers.{joined, total, with_tuples}
use Rattle.rv_pairs.proofs.LaneSums.{joined-left}
use Rattle.rv_pairs.proofs.adder.Adder.join.Goals as goal

pub returns : goal.returns
unfolding total joined
returns c = λ lanes.
    let a = c.args.self.now in
    let behind = take a.count a.buffer in
    ap (λ (z : List ℕ). with_tuples lanes z behind) c.add.ensures.sum ∙ sym (joined-left lanes a.sum.lanes c.args.other.now.lanes behind)
