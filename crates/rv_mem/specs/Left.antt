-- What the uses of a step leave in the cells.
use Rattle.std.specs.Prelude.{◌≡◌, ℕ, List, [], ◌∷◌, Option, Some, None, option_map, unwrap_or, ◌==◌, if◌then◌else◌}
use Rattle.std.specs.Option.{option_or}
use Rattle.rv_base.specs.declared.record.Touch.{Touch}
use Rattle.rv_spec.specs.Cells.{time_of}
use Rattle.rv_mem.specs.Contents.{Contents, value_at, time_at}

-- the last touch of a cell, if there is one
abbrev pub last_touch : List Touch → ℕ → Option Touch
last_touch [] cell = None
last_touch (t ∷ ts) cell = option_or (last_touch ts cell) (if t.cell == cell then Some t else None)

-- what a cell holds after the touches, where it held a value before them
abbrev pub value_after : List Touch → ℕ → ℕ → ℕ
value_after touches cell value = unwrap_or (option_map (λ t. t.new) (last_touch touches cell)) value

-- the time of its last use after the touches of a step, where it had a time before them
abbrev pub time_after : ℕ → List Touch → ℕ → ℕ → ℕ
time_after step touches cell time = unwrap_or (option_map (λ t. time_of step t.slot) (last_touch touches cell)) time

-- Each cell has the value and the time of its last touch, and a cell without a touch does not change.
pub record IsLeft (old new : Contents) (step : ℕ) (touches : List Touch) : Type 0 where
  pub image : new.image ≡ old.image
  pub values : (cell : ℕ) → value_at new cell ≡ value_after touches cell (value_at old cell)
  pub times : (cell : ℕ) → time_at new cell ≡ time_after step touches cell (time_at old cell)
