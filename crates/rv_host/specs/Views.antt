-- What a shelf and a sink mean.
use Rattle.std.specs.Prelude.{ℕ, List, Option}
use Rattle.rv_host.specs.Files.{Files}

-- a shelf: its files, where it tells them, and for each name its counts of faults
pub record ShelfView : Type 0 where
  pub files : Option Files
  pub read_faults : List ℕ → ℕ
  pub write_faults : List ℕ → ℕ

-- a sink: what was written, where it tells it, and its count of faults
pub record SinkView : Type 0 where
  pub written : Option (List ℕ)
  pub faults : ℕ
