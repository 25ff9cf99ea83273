use Rattle.std.proofs.Common.{ap, ◌++◌, ◌≡◌, ◌∙◌, drop, arith}
use Rattle.std.specs.List.{flat_map}
use Rattle.rv_spec.specs.Record.{row_bytes, row_length}
use Rattle.rv_text.proofs.Lemmas.{take-rest, not-row, row-there}
use Rattle.rv_upgrade.proofs.LastRow.{row-behind}
use Rattle.rv_upgrade.proofs.blocking.behind_rows.Goals as goal

pub loop-init : goal.loop-init
loop-init c rs tail fit most is = is

pub returns-in_default : goal.returns-in_default
returns-in_default c rs tail fit most is =
    let known = c.loop.invariant rs tail fit most is in
    let there = row-there c.loop.counter rs tail c.loop.rest.now fit (omega (arith, most, c.loop-test.true)) known in
    absurd (not-row c.read_row.result there.0 (row_length there.0) c.in_default.not-Row (c.read_row.ensures.only there.0 there.1 there.2 there.3))

pub loop-preserved : goal.loop-preserved
loop-preserved c rs tail fit most is =
    take-rest c.in-Row.length c.loop.rest.now
    ∙ row-behind c.loop.counter c.in-Row.length rs tail c.loop.rest.now fit (omega (arith, most, c.loop-test.true)) (c.loop.invariant rs tail fit most is)
    (λ x more fits begins. (c.in-Row.ensures.only x more fits begins).1)

pub returns : goal.returns
returns c rs tail fit most is =
    let end : c.loop.counter ≡ c.args.rows = omega (arith, c.loop.auto.counter-end, c.loop-test.false) in
    c.loop.invariant rs tail fit most is ∙ ap (λ k. flat_map row_bytes (drop k rs) ++ tail) end
