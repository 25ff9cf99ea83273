use Rattle.std.proofs.Common.{◌≡◌, ℕ, ◌^◌, ◌<◌, take}
use Rattle.std.specs.List.{AllByRecursion}
use Rattle.rv_mem.specs.StoredCells.{stored_word, HasPage}
use Rattle.rv_mem.proofs.leaving.reserve_pages.Given as goal

abbrev pub invariant-loop-touch : goal.invariant-loop-touch
invariant-loop-touch l = record {
  image : l.words.image ≡ l.fn.words.image;
  same : (w : ℕ) → w < 2 ^ 30 → stored_word l.words w ≡ stored_word l.fn.words w;
  made : AllByRecursion (λ t. HasPage l.words t.cell) (take l.touch-index l.touches);
}
