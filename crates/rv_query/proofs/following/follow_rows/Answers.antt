use Rattle.std.proofs.Common.{ap, subst, ◌+◌, ◌++◌, ◌≡◌, ◌∙◌, List, map, take, drop, arith}
use Rattle.std.specs.List.{flat_map}
use Rattle.rv_base.specs.declared.record.Access.{Access}
use Rattle.rv_spec.specs.Record.{row_bytes}
use Rattle.rv_query.specs.Accesses.{numbered}
use Rattle.rv_query.specs.Following.{GoPast}
use Rattle.rv_spec.specs.Record.{row_length}
use Rattle.rv_row.specs.RowReading.{row_view}
use Rattle.rv_text.proofs.Lemmas.{take-rest, not-row, row-there}
use Rattle.rv_query.proofs.Trails.{past-none}
use Rattle.rv_query.proofs.Rows.{past-row}
use Rattle.rv_query.proofs.following.follow_rows.Goals as goal

pub loop-row-init : goal.loop-row-init
loop-row-init c rs tail fit most is = (is, past-none c.args.first c.args.until c.args.trails.now)

pub returns-in_default : goal.returns-in_default
returns-in_default c rs tail fit most is =
    let known = c.loop-row.invariant rs tail fit most is in
    let there = row-there c.loop-row.row rs tail c.loop-row.rest.now fit (omega (arith, most, c.loop-row-test.true)) known.0 in
    absurd (not-row c.read_row.result there.0 (row_length there.0) c.in_default.not-Row (c.read_row.ensures.only there.0 there.1 there.2 there.3))

pub loop-row-preserved : goal.loop-row-preserved
loop-row-preserved c rs tail fit most is =
    let known = c.loop-row.invariant rs tail fit most is in
    let stepped =
    past-row c.args.first c.args.until c.args.step c.loop-row.row c.in-Row.length rs tail c.loop-row.rest.now (row_view c.in-Row.read) c.args.trails.now c.loop-row.trails c.pass_row.new.trails
    fit (omega (arith, most, c.loop-row-test.true)) known.0 known.1 (λ x more fits begins. c.in-Row.ensures.only x more fits begins)
    (subst (λ (l : List Access). GoPast c.args.first c.args.until c.loop-row.trails c.pass_row.new.trails (map (λ a. record { step = c.args.step + c.loop-row.row; access = a }) l)) c.as_slice.ensures.value c.pass_row.ensures) in
    (take-rest c.in-Row.length c.loop-row.rest.now ∙ stepped.0, stepped.1)

pub returns : goal.returns
returns c rs tail fit most is =
    let end : c.loop-row.row ≡ c.args.rows = omega (arith, c.loop-row.auto.row-end, c.loop-row-test.false) in
    let known = c.loop-row.invariant rs tail fit most is in (
      known.0 ∙ ap (λ k. flat_map row_bytes (drop k rs) ++ tail) end,
      subst (λ k. GoPast c.args.first c.args.until c.args.trails.now c.loop-row.trails (numbered c.args.step (take k rs))) end known.1,
    )
