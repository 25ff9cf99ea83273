-- The words of memory as they are kept: in pages of 16, and those of the image where no page was made.
use Rattle.std.specs.Prelude.{◌≡◌, ◌<◌, ◌≤◌, ◌^◌, ◌-◌, ◌/◌, ◌%◌, ℕ, List, length, replicate, refl, slice_index_or, ◌==◌, if◌then◌else◌}
use Rattle.rv_mem.specs.declared.page.Page.{Page}
use Rattle.rv_mem.specs.declared.word.Word.{Word}
use Rattle.rv_spec.specs.Elf.{Image}
use Rattle.rv_spec.specs.Cells.{initial_value}
use Rattle.rv_mem.specs.declared.directory.Directory.{Directory}
use Rattle.rv_mem.specs.Paged.{page_number}
use Rattle.rv_mem.specs.Used.{no_word}

abbrev pub first_word : Image → ℕ → Word
first_word i w = record { value = initial_value i w; time = 0 }

-- what stands for a page that is not there
abbrev pub no_page : Page
no_page = record { words = replicate 16 no_word; full = refl }

-- word w of the page with a number
abbrev pub word_in : List Page → ℕ → ℕ → Word
word_in pages number w = slice_index_or (slice_index_or pages (number - 1) no_page).words (w % 16) no_word

unfoldable pub paged_word : Image → Directory → List Page → ℕ → Word
paged_word i directory pages w = if page_number directory (w / 16) == 0 then first_word i w else word_in pages (page_number directory (w / 16)) w

-- The directory's numbers are those of pages, each of another one.
pub record ArePages (directory : Directory) (pages : List Page) : Type 0 where
  pub there : (p : ℕ) → p < 2 ^ 26 → page_number directory p ≤ length pages
  pub apart : (p q : ℕ) → p < 2 ^ 26 → q < 2 ^ 26 → 0 < page_number directory p → page_number directory p ≡ page_number directory q → p ≡ q
