use Rattle.std.proofs.Common.{◌∙◌, sym}
use Rattle.rv_parts.proofs.CombineLaws.{end-here, goes-here, refused-here}
use Rattle.rv_parts.proofs.combining.combine.Goals as goal

pub returns-in-Some : goal.returns-in-Some
returns-in-Some c =
    let at = c.loop-i in
    sym (at.invariant
    ∙ refused-here c.args.header.now at.after at.reads.lanes at.writes.lanes at.entries at.trailing c.args.summaries.now at.i _ c.in-Some.refusal c.loop-i-test.true (sym c.refusal_at.ensures ∙ c.in-Some.is))

pub loop-i-preserved : goal.loop-i-preserved
loop-i-preserved c =
    let at = c.loop-i in
    at.invariant
    ∙ goes-here c.args.header.now at.after at.reads.lanes at.writes.lanes at.entries at.trailing c.args.summaries.now at.i _ c.add.new.self.lanes c.add-in-loop-i.new.self.lanes c.loop-i-test.true (sym c.in_default.ensures)
    c.add.ensures.sum c.add-in-loop-i.ensures.sum

pub returns : goal.returns
returns c =
    let at = c.loop-i in
    c.check_end.ensures
    ∙ sym (at.invariant ∙ end-here c.args.header.now at.after at.reads.lanes at.writes.lanes at.entries at.trailing c.args.summaries.now at.i c.loop-i-test.false)
