use Rattle.std.proofs.Common.{◌++◌, ◌+◌, drop, ap, ◌∙◌, arith}
use Rattle.std.specs.List.{flat_map}
use Rattle.rv_spec.specs.Trace.{Row}
use Rattle.rv_spec.specs.Record.{row_bytes, row_length}
use Rattle.rv_settle.proofs.Gaining.{gains-row, same-events}
use Rattle.rv_settle.proofs.Spelling.{next-row, behind-row, no-row}
use Rattle.rv_settle.proofs.collecting.collect_rows.Goals as goal

pub returns-in_default : goal.returns-in_default
returns-in_default c rs tail size sp =
    let k = c.loop-row.row in
    let n = next-row rs k c.loop-row.rest.now tail (omega (arith, size, c.loop-row-test.true)) sp.fit (c.loop-row.invariant rs tail size sp).0 in
    absurd (no-row c.read_row.result n.0 (row_length n.0) (c.read_row.ensures.only n.0 (flat_map row_bytes (drop (k + 1) rs) ++ tail) n.1.fits n.1.is) c.in_default.not-Row)

pub loop-row-preserved : goal.loop-row-preserved
loop-row-preserved c rs tail size sp =
    let k = c.loop-row.row in
    let inv = c.loop-row.invariant rs tail size sp in
    let n = next-row rs k c.loop-row.rest.now tail (omega (arith, size, c.loop-row-test.true)) sp.fit inv.0 in
    let is = c.in-Row.ensures.only n.0 (flat_map row_bytes (drop (k + 1) rs) ++ tail) n.1.fits n.1.is in (
      c.behind-rest.ensures ∙ behind-row rs k c.in-Row.length c.loop-row.rest.now tail n.0 n.1 is.1,
      gains-row c.args.tuples.now c.loop-row.tuples c.add_row.new.self c.args.step k rs n.0 (omega (arith, size, c.loop-row-test.true)) n.1.at inv.1
          (same-events c.loop-row.tuples c.add_row.new.self (c.args.step + c.from.result) (c.args.step + k) c.as_slice.result.now (n.0).accesses (ap (λ x. c.args.step + x) c.from.ensures) (c.as_slice.ensures.value ∙ ap (λ (r : Row). r.accesses) is.0) c.in_ok-add_row.ensures),
    )
