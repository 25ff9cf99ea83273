use Rattle.std.proofs.Common.{◌≡◌, drop}
use Rattle.rv_parts.specs.Combining.{combined, combined_from}
use Rattle.rv_parts.proofs.combining.combine.Given as goal

abbrev pub invariant-loop-i : goal.invariant-loop-i
invariant-loop-i l =
    combined l.program.elf l.program.input l.header l.summaries
    ≡ combined_from l.header l.after l.reads.lanes l.writes.lanes l.entries l.trailing (drop l.i l.summaries)
