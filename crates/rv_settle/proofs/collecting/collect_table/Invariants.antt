use Rattle.std.proofs.Common.{ℕ, take}
use Rattle.rv_spec.specs.Elf.{image}
use Rattle.rv_spec.specs.Cells.{initial_value}
use Rattle.rv_settle.specs.Collecting.{GainsEntries}
use Rattle.rv_settle.proofs.collecting.collect_table.Given as goal

abbrev pub invariant-loop-j : goal.invariant-loop-j
invariant-loop-j l = (version : ℕ) → GainsEntries (initial_value (image version l.program.elf)) l.fn.tuples l.tuples (take l.j l.parsed.table)
