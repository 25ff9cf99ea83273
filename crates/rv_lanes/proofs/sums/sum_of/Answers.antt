use Rattle.std.proofs.Common.{◌*◌, take, refl, ◌∙◌, ap, arith}
use Rattle.std.proofs.lemmas.List.{take_all}
use Rattle.rv_spec.specs.Digest.{digest, digest_lane, sha_lanes}
use Rattle.rv_lanes.proofs.Takes.{take-last, take-two-more}
use Rattle.rv_lanes.proofs.sums.sum_of.Goals as goal

pub loop-i-init : goal.loop-i-init
unfolding digest_lane
loop-i-init c = refl

pub loop-i-preserved : goal.loop-i-preserved
loop-i-preserved c =
    c.add_two.ensures (take (2 * c.loop-i.i) c.args.tuples.now) c.loop-i.invariant
    ∙ ap (digest sha_lanes) (take-two-more c.args.tuples.now c.loop-i.i _ _ (omega arith))

pub returns-then-tuples-eq1 : goal.returns-then-tuples-eq1
returns-then-tuples-eq1 c =
    c.add_one.ensures (take (2 * c.loop-i.i) c.args.tuples.now) c.loop-i.invariant
    ∙ ap (digest sha_lanes) (take-last c.args.tuples.now (2 * c.loop-i.i) _ _ (omega arith) (omega arith))

pub returns-else-tuples-eq1 : goal.returns-else-tuples-eq1
returns-else-tuples-eq1 c = c.loop-i.invariant ∙ ap (digest sha_lanes) (take_all (2 * c.loop-i.i) c.args.tuples.now (omega arith))
