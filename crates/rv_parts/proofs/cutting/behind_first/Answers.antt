use Rattle.std.proofs.Common.{◌∙◌, length, sym, ap, arith}
use Rattle.std.proofs.lemmas.List.{length-drop}
use Rattle.rv_file.specs.Parsing.{shard_size}
use Rattle.rv_file.proofs.Lemmas.{holds-one, behind-one, behind-none}
use Rattle.rv_parts.proofs.cutting.behind_first.Goals as goal

pub behind_shard-rest-requires : goal.behind_shard-rest-requires
behind_shard-rest-requires c = (holds-one c.args.shards c.loop.counter c.loop.rest.now c.loop-test.true c.loop.invariant.holds).0

pub loop-preserved : goal.loop-preserved
loop-preserved c =
    let rest = c.loop.rest.now in
    let next = c.behind_shard-rest.ensures in
    record {
      same = rw next (behind-one c.args.shards c.loop.counter rest c.loop-test.true ∙ c.loop.invariant.same);
      holds = rw next (holds-one c.args.shards c.loop.counter rest c.loop-test.true c.loop.invariant.holds).1;
      within = omega (arith, c.loop.invariant.within, ap length next, length-drop (shard_size rest) rest);
    }

pub returns-clause-value : goal.returns-clause-value
returns-clause-value c = sym (behind-none c.args.shards c.loop.counter c.loop.rest.now c.loop-test.false) ∙ c.loop.invariant.same
