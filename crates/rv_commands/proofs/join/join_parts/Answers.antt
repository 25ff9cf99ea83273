use Rattle.std.proofs.Common.{Ok, ap, arith, subst, ◌∙◌, ◌≡◌}
use Rattle.rv_parts.specs.Combining.{combined}
use Rattle.rv_plan.proofs.Lemmas.{handed-on}
use Rattle.rv_commands.specs.Commands.{join_words}
use Rattle.rv_commands.specs.Joining.{ReadsFirst}
use Rattle.rv_commands.proofs.Joining.{IsBehind, all-joined, all-refused, all-stopped, behind-begun, behind-more, behind-stops, kept-checked, kept-front}
use Rattle.rv_commands.proofs.join.join_parts.Goals as goal

pub returns-in-Refused : goal.returns-in-Refused
returns-in-Refused g c =
    all-refused (join_words c.args.words.now) c.args.program.now.elf c.args.program.now.input _ _ c.in-Refused.refusal c.tell_verdict.result
    (subst (λ x. ReadsFirst (join_words c.args.words.now) c.args.program.now.elf c.args.program.now.input (g.S.Shelf.view c.args.shelf.now) (g.S.Shelf.view c.first_part.new.shelf) (Ok x)) c.in-Refused.is c.in_ok-joining.ensures) c.tell_verdict.ensures

pub loop-number-init : goal.loop-number-init
loop-number-init g c = behind-begun (join_words c.args.words.now) c.args.program.now.elf c.args.program.now.input _ _ c.in-Checked.joining
    (subst (λ x. ReadsFirst (join_words c.args.words.now) c.args.program.now.elf c.args.program.now.input (g.S.Shelf.view c.args.shelf.now) (g.S.Shelf.view c.first_part.new.shelf) (Ok x)) c.in-Checked.is c.in_ok-joining.ensures)

pub next_part-requires-clause-checked : goal.next_part-requires-clause-checked
next_part-requires-clause-checked g c =
    let b = c.loop-number.invariant in
    kept-checked c.args.words.now.parts c.args.program.now.elf c.args.program.now.input c.loop-number.joining c.loop-number.number b.joined b.parts b.is

pub next_part-requires-clause-front : goal.next_part-requires-clause-front
next_part-requires-clause-front g c =
    let b = c.loop-number.invariant in
    kept-front c.args.words.now.parts c.args.program.now.elf c.args.program.now.input c.loop-number.joining c.loop-number.number b.joined b.parts b.is

pub returns-in_err-next_part : goal.returns-in_err-next_part
returns-in_err-next_part g c =
    let w = join_words c.args.words.now in
    rw (handed-on c.from_residual-in_err-next_part.result c.in_err-next_part.field-0.0 c.from_residual-in_err-next_part.ensures.1)
    (all-stopped w c.args.program.now.elf c.args.program.now.input _ _ c.in_err-next_part.field-0.0
    (behind-stops w c.args.program.now.elf c.args.program.now.input _ _ _ c.loop-number.joining c.next_part.new.joining c.loop-number.number c.in_err-next_part.field-0.0 c.loop-number-test.true c.loop-number.invariant c.in_err-next_part.ensures))

pub loop-number-preserved : goal.loop-number-preserved
loop-number-preserved g c =
    behind-more (join_words c.args.words.now) c.args.program.now.elf c.args.program.now.input _ _ _ c.loop-number.joining c.next_part.new.joining c.loop-number.number c.loop-number-test.true c.loop-number.invariant c.in_ok-next_part.ensures

pub returns : goal.returns
returns g c =
    let w = join_words c.args.words.now in
    let elf = c.args.program.now.elf in
    let input = c.args.program.now.input in
    let end : c.loop-number.number ≡ w.parts = omega (arith, c.loop-number.auto.number-end, c.loop-number-test.false, c.requires.0) in
    let b : IsBehind w elf input (g.S.Shelf.view c.args.shelf.now) (g.S.Shelf.view c.loop-number.shelf) c.loop-number.joining w.parts = subst (λ k. IsBehind w elf input (g.S.Shelf.view c.args.shelf.now) (g.S.Shelf.view c.loop-number.shelf) c.loop-number.joining k) end c.loop-number.invariant in
    all-joined w elf input _ _ c.loop-number.joining c.combine-verdict.result c.tell_verdict-2.result c.summaries_tell_the_verdict.ensures c.verdicts_conclude.ensures.sound c.opened.ensures.elf c.opened.ensures.input c.opened.ensures.faultless b
    (c.combine-verdict.ensures ∙ ap (combined elf input c.loop-number.joining.header) c.as_slice.ensures.value) c.tell_verdict-2.ensures
