use Rattle.std.proofs.lemmas.Result.{err_from_is_err_and}
use Rattle.rv_file.specs.Skipping.{shards_left}
use Rattle.rv_file.proofs.Skipped.{shards-more, shards-end, shards-done}
use Rattle.rv_file.proofs.skipping.skip_shards.Goals as goal

pub returns-in_err-rest : goal.returns-in_err-rest
returns-in_err-rest c =
    let p = err_from_is_err_and c.from_residual.result c.from_residual.ensures.1 in
    let h = c.args.h.now in
    rw (p.1, p.2) (shards-end h.shards h c.loop-shard.shard c.loop-shard.rest.now c.in_err-rest.field-0.0 (shards_left h.shards h 0 c.args.bytes.now) c.loop-shard-test.true c.in_err-rest.ensures c.loop-shard.invariant)

pub loop-shard-preserved : goal.loop-shard-preserved
loop-shard-preserved c =
    let h = c.args.h.now in
    shards-more h.shards h c.loop-shard.shard c.loop-shard.rest.now c.in_ok-rest.rest.now (shards_left h.shards h 0 c.args.bytes.now) c.loop-shard-test.true c.in_ok-rest.ensures c.loop-shard.invariant

pub returns : goal.returns
returns c =
    let h = c.args.h.now in
    shards-done h.shards h c.loop-shard.shard c.loop-shard.rest.now (shards_left h.shards h 0 c.args.bytes.now) c.loop-shard-test.false c.loop-shard.invariant
