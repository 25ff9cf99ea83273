-- What the levels say of pages.
use Rattle.std.specs.Prelude.{ℕ, ◌/◌, ◌<◌}
use Rattle.rv_mem.specs.declared.levels.Levels.{Levels}
use Rattle.rv_mem.specs.Blocks.{block_number}
use Rattle.rv_mem.specs.Directory.{number_in}

-- the number of a page, from 1 on, or 0
abbrev pub level_number : Levels → ℕ → ℕ
level_number l page = number_in l.blocks.entries.items l.leaves.items page

-- the leaf that a page's entry stands in was made
abbrev pub HasLeaf : Levels → ℕ → Type 0
HasLeaf l page = 0 < block_number l.blocks.entries.items (page / 256)
