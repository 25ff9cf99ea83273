use Rattle.std.proofs.Common.{None}
use Rattle.std.proofs.lemmas.Result.{err_from_is_err_and}
use Rattle.rv_file.specs.Skipping.{entries_left}
use Rattle.rv_file.proofs.Skipped.{entries-more, entries-end, entries-done}
use Rattle.rv_file.proofs.skipping.skip_entries.Goals as goal

pub returns-in_err-entry : goal.returns-in_err-entry
returns-in_err-entry c =
    let p = err_from_is_err_and c.from_residual.result c.from_residual.ensures.1 in
    let h = c.args.h.now in
    rw (p.1, p.2) (entries-end c.args.count h c.loop-j.j c.loop-j.before c.loop-j.rest.now c.in_err-entry.field-0.0 (entries_left c.args.count h 0 None c.args.bytes.now) c.loop-j-test.true c.in_err-entry.ensures c.loop-j.invariant)

pub loop-j-preserved : goal.loop-j-preserved
loop-j-preserved c =
    let h = c.args.h.now in
    entries-more c.args.count h c.loop-j.j c.loop-j.before c.loop-j.rest.now c.in_ok-entry.entry c.in_ok-entry.behind.now (entries_left c.args.count h 0 None c.args.bytes.now) c.loop-j-test.true c.in_ok-entry.ensures c.loop-j.invariant

pub returns : goal.returns
returns c =
    let h = c.args.h.now in
    entries-done c.args.count h c.loop-j.j c.loop-j.before c.loop-j.rest.now (entries_left c.args.count h 0 None c.args.bytes.now) c.loop-j-test.false c.loop-j.invariant
