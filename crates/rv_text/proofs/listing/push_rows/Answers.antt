use Rattle.std.proofs.Common.{string_bytes, sym, ◌∙◌, arith}
use Rattle.std.proofs.lemmas.List.{append-nil}
use Rattle.rv_spec.specs.Record.{row_length}
use Rattle.rv_row.specs.RowReading.{row_view}
use Rattle.rv_text.specs.Within.{lines_within}
use Rattle.rv_text.proofs.RowSteps.{take-rest, not-row, row-there, row-step}
use Rattle.rv_text.proofs.listing.push_rows.Goals as goal

pub loop-r-init : goal.loop-r-init
unfolding lines_within
loop-r-init c rs tail fit count is = (is, sym (append-nil (string_bytes c.args.text.now)))

pub returns-in_default : goal.returns-in_default
returns-in_default c rs tail fit count is =
    let known = c.loop-r.invariant rs tail fit count is in
    let there = row-there c.loop-r.r rs tail c.loop-r.rest.now fit (omega (arith, count, c.loop-r-test.true)) known.0 in
    absurd (not-row c.read_row.result there.0 (row_length there.0) c.in_default.not-Row (c.read_row.ensures.only there.0 there.1 there.2 there.3))

pub loop-r-preserved : goal.loop-r-preserved
loop-r-preserved c rs tail fit count is =
    let known = c.loop-r.invariant rs tail fit count is in
    let stepped =
    row-step c.args.version c.args.from c.args.until c.args.first c.loop-r.r rs tail c.loop-r.rest.now (string_bytes c.args.text.now) (string_bytes c.loop-r.text) _ (row_view c.in-Row.row) c.in-Row.length
    fit (omega (arith, count, c.loop-r-test.true)) known.0 known.1 (λ x more fits begins. c.in-Row.ensures.only x more fits begins) c.in_ok-push_within.ensures in
    (take-rest c.in-Row.length c.loop-r.rest.now ∙ stepped.0, stepped.1)
