use Rattle.std.proofs.Common.{◌≡◌, ◌-◌, ◌++◌, string_bytes, slice_index}
use Rattle.std.specs.List.{flat_map, range_with_len}
use Rattle.rv_commands.specs.Lines.{register_line, state_line}
use Rattle.rv_commands.proofs.answer_lines.state_text.Given as goal

-- the lines of the registers before r are there
abbrev pub invariant-loop-r : goal.invariant-loop-r
invariant-loop-r l = string_bytes l.text ≡ state_line l.fn.step l.fn.seen.pc ++ flat_map (λ r. register_line r (slice_index l.fn.seen.regs r)) (range_with_len 1 (l.r - 1))
