use Rattle.std.proofs.Common.{take, refl, sym, ◌∙◌, ap, arith}
use Rattle.std.proofs.lemmas.List.{take_all, take_more}
use Rattle.rv_spec.specs.Digest.{digest, digest_lane}
use Rattle.rv_lanes.proofs.Lemmas.{digest-added}
use Rattle.rv_digest.proofs.lanes.Lanes.sum_of.Goals as goal

pub loop-t-init : goal.loop-t-init
unfolding digest_lane
loop-t-init g c = refl

pub loop-t-preserved : goal.loop-t-preserved
loop-t-preserved g c =
    digest-added g.Self.Lanes.lanes (take c.loop-t.t-index c.args.tuples.now) _ c.add_lanes.ensures c.of.ensures c.loop-t.invariant
    ∙ ap (digest g.Self.Lanes.lanes) (sym (take_more c.args.tuples.now c.loop-t.t-index _ c.loop-t-test.true))

pub returns : goal.returns
returns g c = c.loop-t.invariant ∙ ap (digest g.Self.Lanes.lanes) (take_all c.loop-t.t-index c.args.tuples.now (omega arith))
