use Rattle.std.proofs.Common.{◌≡◌, ◌-◌, ◌++◌, ap, ◌∙◌, arith, slice_index}
use Rattle.std.specs.List.{flat_map, range_with_len}
use Rattle.rv_commands.specs.Lines.{register_line, state_line}
use Rattle.rv_commands.specs.declared.spelled_cells.TheConstants.{LAST_REGISTER}
use Rattle.rv_commands.proofs.AnswerText.{lines-more}
use Rattle.rv_commands.proofs.answer_lines.state_text.Goals as goal

pub loop-r-preserved : goal.loop-r-preserved
loop-r-preserved c =
    let seen = c.args.seen.now in
    lines-more (λ r. register_line r (slice_index seen.regs r)) (state_line c.args.step seen.pc) _ _ c.loop-r.r (omega (arith, c.loop-r.auto.r)) c.loop-r.invariant c.in_ok-push_register.ensures

pub returns : goal.returns
returns c =
    let seen = c.args.seen.now in
    let all : c.loop-r.r - 1 ≡ LAST_REGISTER = omega (arith, c.loop-r-test.false, c.loop-r.auto.r, c.loop-r.auto.r-end) in
    c.loop-r.invariant ∙ ap (λ n. state_line c.args.step seen.pc ++ flat_map (λ r. register_line r (slice_index seen.regs r)) (range_with_len 1 n)) all
