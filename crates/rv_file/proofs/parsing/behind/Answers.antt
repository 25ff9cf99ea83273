use Rattle.std.proofs.Common.{◌∙◌, sym}
use Rattle.rv_file.proofs.Showing.{holds-one, behind-one, behind-none}
use Rattle.rv_file.proofs.parsing.behind.Goals as goal

pub behind_shard-rest-requires : goal.behind_shard-rest-requires
behind_shard-rest-requires c = (holds-one c.args.shards c.loop.counter c.loop.rest.now c.loop-test.true c.loop.invariant.holds).0

pub loop-preserved : goal.loop-preserved
loop-preserved c = record {
  same = rw c.behind_shard-rest.ensures (behind-one c.args.shards c.loop.counter c.loop.rest.now c.loop-test.true ∙ c.loop.invariant.same);
  holds = rw c.behind_shard-rest.ensures (holds-one c.args.shards c.loop.counter c.loop.rest.now c.loop-test.true c.loop.invariant.holds).1;
}

pub returns : goal.returns
returns c = sym (behind-none c.args.shards c.loop.counter c.loop.rest.now c.loop-test.false) ∙ c.loop.invariant.same
