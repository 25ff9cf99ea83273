use Rattle.std.proofs.Common.{◌≡◌, ◌∙◌, true, Option, sym, subst}
use Rattle.rv_base.specs.declared.record.Place.{Place}
use Rattle.rv_parts.specs.Alone.{subject_of}
use Rattle.rv_parts.specs.Summaries.{IsOfPart, is_last}
use Rattle.rv_parts.proofs.SummaryLaws.{last-summary}
use Rattle.rv_parts.proofs.summaries.summarize.Goals as goal

pub returns-then-last : goal.returns-then-last
returns-then-last g c =
    let s = subject_of c.args.program.now c.args.header.now c.args.output.now in
    let head = c.args.head in
    let shards = c.without_table-shards.result in
    let seen = c.in-Ok.ensures in
    let last : is_last head ≡ true = sym c.is_last-last.ensures ∙ c.if-last.true in
    let part = subst (λ (b : Option Place). IsOfPart head b shards) c.stated_place-before.ensures c.without_table-shards.ensures.part in
    last-summary g.L.Lanes.lanes s head c.args.body.now shards c.with_table.result seen.0 c.in-Ok.seen seen.1 seen.2 last part c.without_table-shards.ensures.told c.with_table.ensures.part c.with_table.ensures.table
