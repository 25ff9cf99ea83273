-- What the directory says of pages.
use Rattle.std.specs.Prelude.{ℕ}
use Rattle.rv_mem.specs.declared.directory.Directory.{Directory}
use Rattle.rv_mem.specs.Levels.{level_number}

-- the number of a page, from 1 on, or 0
abbrev pub page_number : Directory → ℕ → ℕ
page_number d page = level_number d.levels page
