use Rattle.std.proofs.Common.{◌++◌, ap, ◌∙◌, arith}
use Rattle.std.proofs.lemmas.List.{take_all}
use Rattle.std.specs.List.{flat_map}
use Rattle.rv_commands.proofs.Making.{parts-last}
use Rattle.rv_commands.proofs.recording.parts_of.Goals as goal

pub returns : goal.returns
returns c =
    ap (flat_map (λ part. part.now)) c.in_ok-push-4.ensures.items
    ∙ parts-last (λ part. part.now) c.loop-shard.parts.items c.args.table (c.args.front.now ++ c.args.output.now ++ flat_map (λ part. part.now) c.args.shards.now)
    (c.loop-shard.invariant ∙ ap (λ ys. c.args.front.now ++ c.args.output.now ++ flat_map (λ part. part.now) ys) (take_all c.loop-shard.shard-index c.args.shards.now (omega (arith, c.loop-shard-test.false))))
