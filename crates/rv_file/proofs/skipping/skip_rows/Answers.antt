use Rattle.std.proofs.Common.{arith}
use Rattle.std.proofs.lemmas.Result.{err_from_is_err_and}
use Rattle.rv_file.specs.Skipping.{rows_left}
use Rattle.rv_file.proofs.Skipped.{rows-more, rows-end, rows-done}
use Rattle.rv_file.proofs.skipping.skip_rows.Goals as goal

pub returns-in_err-rest-clause-exact : goal.returns-in_err-rest-clause-exact
returns-in_err-rest-clause-exact c =
    let p = err_from_is_err_and c.from_residual.result c.from_residual.ensures.1 in
    rw (p.1, p.2) (rows-end c.args.rows c.args.shard c.loop-row.row c.loop-row.rest.now c.in_err-rest.field-0.0 (rows_left c.args.rows c.args.shard 0 c.args.bytes.now) c.loop-row-test.true c.in_err-rest.ensures.exact c.loop-row.invariant.same)

pub loop-row-preserved : goal.loop-row-preserved
loop-row-preserved c = record {
  same = rows-more c.args.rows c.args.shard c.loop-row.row c.loop-row.rest.now c.in_ok-rest.rest.now (rows_left c.args.rows c.args.shard 0 c.args.bytes.now) c.loop-row-test.true c.in_ok-rest.ensures.exact c.loop-row.invariant.same;
  within = omega (arith, c.in_ok-rest.ensures.within);
}

pub returns : goal.returns
returns c = record {
  exact = rows-done c.args.rows c.args.shard c.loop-row.row c.loop-row.rest.now (rows_left c.args.rows c.args.shard 0 c.args.bytes.now) c.loop-row-test.false c.loop-row.invariant.same;
  within = c.loop-row.invariant.within;
}
