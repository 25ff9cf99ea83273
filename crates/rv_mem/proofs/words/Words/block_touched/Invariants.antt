use Rattle.std.proofs.Common.{◌≡◌, ◌++◌, ◌*◌}
use Rattle.rv_mem.specs.Used.{used}
use Rattle.rv_mem.specs.StoredCells.{stored_word}
use Rattle.rv_mem.proofs.words.Words.block_touched.Given as goal

abbrev pub invariant-loop-place : goal.invariant-loop-place
invariant-loop-place l = l.entries.items ≡ l.initial.entries.items ++ used (stored_word l.self) (4096 * l.block) (16 * l.place)
