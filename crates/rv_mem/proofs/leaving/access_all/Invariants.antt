use Rattle.std.proofs.Common.{◌≡◌, ℕ, ◌<◌, [], ◌++◌, length, take, drop}
use Rattle.std.specs.List.{AllByRecursion}
use Rattle.arrayvec.specs.ArrayVec.{array_vec_len}
use Rattle.rv_mem.specs.Accesses.{accesses_of}
use Rattle.rv_mem.specs.StoredCells.{stored_cell, word_after, HasPage}
use Rattle.rv_mem.proofs.leaving.access_all.Given as goal

abbrev pub invariant-loop-touch : goal.invariant-loop-touch
invariant-loop-touch l =
    let values = λ (c : ℕ). (stored_cell l.fn.words l.fn.registers c).value in
    let times = λ (c : ℕ). (stored_cell l.fn.words l.fn.registers c).time in
    record {
      image : l.words.image ≡ l.fn.words.image;
      full : length l.registers ≡ 33;
      made : AllByRecursion (λ t. HasPage l.words t.cell) l.touches;
      left : (c : ℕ) → c < 1073741857 → stored_cell l.words l.registers c ≡ word_after l.step (take l.touch-index l.touches) c (stored_cell l.fn.words l.fn.registers c);
      many : array_vec_len l.accesses ≡ l.touch-index;
      are : l.accesses.items ++ accesses_of values times l.step (take l.touch-index l.touches) (drop l.touch-index l.touches) ≡ accesses_of values times l.step [] l.touches;
    }
