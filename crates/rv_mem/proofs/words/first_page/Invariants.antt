use Rattle.std.proofs.Common.{◌≡◌, ◌<◌, ◌+◌, ◌*◌, ℕ, length, slice_index_or}
use Rattle.rv_mem.specs.Used.{no_word}
use Rattle.rv_mem.specs.Words.{first_word}
use Rattle.rv_mem.proofs.words.first_page.Given as goal

abbrev pub invariant-loop-i : goal.invariant-loop-i
invariant-loop-i l = record {
  full : length l.words ≡ 16;
  begun : (k : ℕ) → k < l.i → slice_index_or l.words k no_word ≡ first_word l.image (16 * l.page + k);
}
