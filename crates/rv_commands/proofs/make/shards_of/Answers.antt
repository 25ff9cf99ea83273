use Rattle.std.proofs.Common.{◌≡◌, ℕ, ap, ◌∙◌, arith}
use Rattle.std.specs.List.{flat_map, range_with_len}
use Rattle.rv_commands.proofs.Making.{shards-more}
use Rattle.rv_commands.proofs.make.shards_of.Goals as goal

pub loop-i-preserved : goal.loop-i-preserved
loop-i-preserved g c = λ piece each.
    ap (flat_map (λ part. part.now)) c.in_ok-push.ensures.items
    ∙ shards-more (λ part. part.now) c.loop-i.parts.items c.bytes_of.result (λ (i : ℕ). (piece i).bytes) c.loop-i.i (c.loop-i.invariant piece each) (c.bytes_of.ensures (piece c.loop-i.i) (each c.loop-i.i c.loop-i-test.true))

pub returns : goal.returns
returns g c = λ piece each. c.loop-i.invariant piece each ∙ ap (λ n. flat_map (λ (i : ℕ). (piece i).bytes) (range_with_len 0 n)) (let e : c.loop-i.i ≡ c.args.shards = omega (arith, c.loop-i.auto.i-end, c.loop-i-test.false) in e)
