-- The directory of pages, as the entries of its upper levels and of its leaves, which have 256 entries each.
use Rattle.std.specs.Prelude.{◌≡◌, ℕ, ◌+◌, ◌-◌, ◌*◌, ◌/◌, ◌%◌, ◌^◌, ◌<◌, ◌≤◌, List, length, slice_index, ◌==◌, if◌then◌else◌}
use Rattle.rv_mem.specs.Blocks.{block_number}

-- the number of a page, from 1 on, or 0
unfoldable pub number_in : List ℕ → List ℕ → ℕ → ℕ
number_in entries leaves page = if block_number entries (page / 256) == 0 then 0 else slice_index leaves (256 * (block_number entries (page / 256) - 1) + page % 256)

-- There are whole leaves, each that a block has is there, and no two blocks have one leaf.
pub record IsDirectory (entries leaves : List ℕ) : Type 0 where
  pub whole : length leaves % 256 ≡ 0
  pub there : (b : ℕ) → b < 2 ^ 18 → 256 * block_number entries b ≤ length leaves
  pub apart : (b c : ℕ) → b < 2 ^ 18 → c < 2 ^ 18 → 0 < block_number entries b → block_number entries b ≡ block_number entries c → b ≡ c
