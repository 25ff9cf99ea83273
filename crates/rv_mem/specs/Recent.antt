-- The pages that were used lately.
use Rattle.std.specs.Prelude.{◌≡◌, ℕ, ◌<◌, ◌^◌, List, length, slice_index_or}
use Rattle.rv_mem.specs.declared.directory.Recent.{Recent}
use Rattle.rv_mem.specs.declared.levels.Levels.{Levels}
use Rattle.rv_mem.specs.Levels.{level_number}

-- what stands where no page was used
abbrev pub no_recent : Recent
no_recent = record { page = 0; number = 0 }

-- a page and its number, if it tells one
abbrev pub IsRecent : Levels → Recent → Type 0
IsRecent levels r = 0 < r.number → (r.page < 2 ^ 26) × (level_number levels r.page ≡ r.number)

-- There are 64 places, and what they tell is so.
pub record AreRecent (levels : Levels) (recent : List Recent) : Type 0 where
  pub full : length recent ≡ 64
  pub told : (k : ℕ) → IsRecent levels (slice_index_or recent k no_recent)
