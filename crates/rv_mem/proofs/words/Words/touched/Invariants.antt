use Rattle.std.proofs.Common.{◌≡◌, ◌*◌}
use Rattle.rv_mem.specs.Used.{used}
use Rattle.rv_mem.specs.StoredCells.{stored_word}
use Rattle.rv_mem.proofs.words.Words.touched.Given as goal

abbrev pub invariant-loop-table : goal.invariant-loop-table
invariant-loop-table l = l.entries.items ≡ used (stored_word l.self) 0 (2097152 * l.table)
