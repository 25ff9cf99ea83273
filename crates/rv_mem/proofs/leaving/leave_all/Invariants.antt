use Rattle.std.proofs.Common.{◌≡◌, ℕ, ◌<◌, length, take}
use Rattle.std.specs.List.{AllByRecursion}
use Rattle.rv_mem.specs.StoredCells.{stored_cell, word_after, HasPage}
use Rattle.rv_mem.proofs.leaving.leave_all.Given as goal

abbrev pub invariant-loop-touch : goal.invariant-loop-touch
invariant-loop-touch l = record {
  image : l.words.image ≡ l.fn.words.image;
  full : length l.registers ≡ 33;
  made : AllByRecursion (λ t. HasPage l.words t.cell) l.touches;
  left : (c : ℕ) → c < 1073741857 → stored_cell l.words l.registers c ≡ word_after l.step (take l.touch-index l.touches) c (stored_cell l.fn.words l.fn.registers c);
}
