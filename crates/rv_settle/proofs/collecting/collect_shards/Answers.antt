use Rattle.std.proofs.Common.{◌++◌, ◌+◌, drop, sym, ◌∙◌, arith}
use Rattle.std.specs.List.{flat_map}
use Rattle.rv_spec.specs.Record.{shard_bytes}
use Rattle.rv_settle.proofs.Gaining.{behind-shard}
use Rattle.rv_settle.proofs.Spelling.{next-shard}
use Rattle.rv_settle.proofs.collecting.collect_shards.Goals as goal

pub loop-shard-preserved : goal.loop-shard-preserved
loop-shard-preserved c = record {
  bound = omega (arith, c.from-step.ensures, c.rows_of-rows.ensures, c.requires.size, c.loop-shard.invariant.bound);
  behind = λ ss tail sp.
      let h = c.args.h.now in
      let k = c.loop-shard.shard in
      let inv = c.loop-shard.invariant.behind ss tail sp in
      let n = next-shard h ss k c.args.bytes.now c.loop-shard.rest.now tail sp c.loop-shard-test.true inv.0 in
      let s = n.0 in
      let e = c.in_ok-rest.ensures h k s (flat_map shard_bytes (drop (k + 1) ss) ++ tail) (c.rows_of-rows.ensures ∙ sym n.1.spelled.fits.rows) n.1.spelled in (
        e.0,
        behind-shard c.args.tuples.now c.loop-shard.tuples c.collect_shard.new.tuples c.loop-shard.step k c.from-step.result ss s n.1.at
            (n.1.spelled.fits.count ∙ n.1.spelled.fits.rows ∙ sym c.rows_of-rows.ensures ∙ sym c.from-step.ensures)
            inv.1
            e.1,
      );
}
