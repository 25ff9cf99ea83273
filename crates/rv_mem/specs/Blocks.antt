-- The upper levels of the directory, as the list of their entries: the upper one of 512 numbers of tables, and the tables of 512 numbers of leaves each, one for each block of pages.
use Rattle.std.specs.Prelude.{◌≡◌, ℕ, ◌+◌, ◌*◌, ◌/◌, ◌%◌, ◌<◌, ◌≤◌, List, length, slice_index, ◌==◌, if◌then◌else◌}

-- the number of the table that has a block's entry, from 1 on, or 0
abbrev pub table_of : List ℕ → ℕ → ℕ
table_of entries block = slice_index entries (block / 512)

-- the number of a block's leaf, from 1 on, or 0
unfoldable pub block_number : List ℕ → ℕ → ℕ
block_number entries block = if table_of entries block == 0 then 0 else slice_index entries (512 * table_of entries block + block % 512)

-- There are no entries or whole levels, each table that it names is there, and no two places name one table.
pub record IsBlocks (entries : List ℕ) : Type 0 where
  pub whole : length entries % 512 ≡ 0
  pub there : (k : ℕ) → k < 512 → 0 < slice_index entries k → 512 * slice_index entries k + 512 ≤ length entries
  pub apart : (j k : ℕ) → j < 512 → k < 512 → 0 < slice_index entries j → slice_index entries j ≡ slice_index entries k → j ≡ k
