use Rattle.std.proofs.Common.{rules, ◌≡◌, length, refl, sym}
use Rattle.std.proofs.lemmas.Simd.{pick_l_whole}
use Rattle.rv_lanes.proofs.sums.add_lanes.Goals as goal

-- both lists spelled out as sixteen numbers, the sums compute
pub returns : goal.returns
returns c =
    let mine : length c.args.sum.now ≡ 16 = search rules in
    let theirs : length c.args.lanes.now ≡ 16 = search rules in
    rw (sym (pick_l_whole 0 c.args.sum.now 16 mine), sym (pick_l_whole 0 c.args.lanes.now 16 theirs)) refl
