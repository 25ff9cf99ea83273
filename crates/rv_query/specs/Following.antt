-- What is known of cells behind some accesses: private steps of the questions.
use Rattle.std.specs.Prelude.{◌≡◌, ℕ, ◌+◌, ◌++◌, List, map, drop, length, Some, option_map, unwrap_or, slice_get}
use Rattle.std.specs.List.{AllByRecursion, flat_map, range_with_len}
use Rattle.rv_spec.specs.Trace.{Row}
use Rattle.rv_spec.specs.Record.{row_bytes}
use Rattle.rv_spec.specs.Grammar.{RowFits}
use Rattle.rv_query.specs.Accesses.{Numbered, own_time, last_access, last_change}
use Rattle.rv_query.specs.declared.trail.Trail.{Trail}

-- the trail of a cell behind some accesses
unfoldable pub trail : ℕ → List Numbered → ℕ → ℕ → Trail
trail initial xs cell step =
    let last = last_access xs cell step in
    let change = last_change xs cell step in
    record {
      value = unwrap_or (option_map (λ a. a.access.new) last) initial;
      time = unwrap_or (option_map own_time last) 0;
      changed = option_map (λ a. a.step) change;
      changed_time = unwrap_or (option_map own_time change) 0;
    }

-- these are the trails of consecutive cells
abbrev pub AreTrails : (ℕ → ℕ) → List Numbered → ℕ → ℕ → List Trail → Type 0
AreTrails initial xs first step ts = ts ≡ map (λ j. trail (initial (first + j)) xs (first + j) step) (range_with_len 0 (length ts))

-- the trails have gone past these accesses more
abbrev pub GoPast : ℕ → ℕ → List Trail → List Trail → List Numbered → Type 0
GoPast first step old new xs = (initial : ℕ → ℕ) (before : List Numbered) → AreTrails initial before first step old → AreTrails initial (before ++ xs) first step new

-- the bytes begin with the row at a place of some rows
pub record BeginWithRow (rs : List Row) (k : ℕ) (bytes : List ℕ) : Type 0 where
  pub row : Row
  pub rest : List ℕ
  pub at : slice_get rs k ≡ Some row
  pub fits : RowFits row
  pub are : bytes ≡ row_bytes row ++ rest

-- the bytes are those behind some of these rows
pub record BehindRows (rs : List Row) (k : ℕ) (bytes : List ℕ) : Type 0 where
  pub rest : List ℕ
  pub fit : AllByRecursion RowFits rs
  pub are : bytes ≡ flat_map row_bytes (drop k rs) ++ rest
