use Rattle.std.proofs.Common.{rules, ◌≡◌, ◌∙◌, ◌+◌, List, ℕ, [], length, set, take, ap, sym, arith, length-set}
use Rattle.std.proofs.lemmas.List.{take_all}
use Rattle.rv_pairs.specs.Covers.{total, with_tuples}
use Rattle.rv_pairs.proofs.LaneSums.{with-none}
use Rattle.rv_pairs.proofs.Waiting.{one-behind}
use Rattle.rv_pairs.proofs.adder.Adder.add.Goals as goal

pub returns-then-self-lt-BATCH : goal.returns-then-self-lt-BATCH
unfolding total
returns-then-self-lt-BATCH g c =
    let a = c.args.self.now in
    let long : length a.buffer ≡ 64 = search rules in
    one-behind g.L.Lanes.lanes a.sum.lanes a.buffer a.count c.args.t (omega (arith, a.few, long))

pub returns-else-self-lt-BATCH : goal.returns-else-self-lt-BATCH
unfolding total with_tuples
returns-else-self-lt-BATCH g c =
    let a = c.args.self.now in
    let lanes = g.L.Lanes.lanes in
    let long : length a.buffer ≡ 64 = search rules in
    let all = set a.buffer a.count c.args.t in
    let whole : take (a.count + 1) all ≡ all = take_all (a.count + 1) all (omega (arith, c.if-self-lt-BATCH.false, long, length-set a.buffer a.count c.args.t)) in
    ap (λ (z : List ℕ). with_tuples lanes z []) c.add_tuples.ensures.sum
    ∙ with-none lanes a.sum.lanes all
    ∙ ap (with_tuples lanes a.sum.lanes) (sym whole)
    ∙ one-behind lanes a.sum.lanes a.buffer a.count c.args.t (omega (arith, a.few, long))
