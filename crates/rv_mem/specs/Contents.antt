-- What a memory holds: the cells of a program, and over them those that were set since.
use Rattle.std.specs.Prelude.{◌≡◌, ◌≢◌, ◌<◌, ℕ, List, find, map, option_map, unwrap_or, Option, ◌==◌, IsTrue}
use Rattle.std.specs.List.{Contains}
use Rattle.rv_base.specs.declared.record.TableEntry.{TableEntry}
use Rattle.rv_spec.specs.Elf.{Image}
use Rattle.rv_spec.specs.Cells.{is_cell, initial_value}
use Rattle.rv_spec.specs.Grammar.{IsRising}

-- The cells that were set, by rising number, each with its value and time. A time is above 0.
pub record Contents : Type 0 where
  pub image : Image
  pub touched : List TableEntry

-- the entry of a cell
abbrev pub entry_at : List TableEntry → ℕ → Option TableEntry
entry_at entries cell = find (λ e. e.cell == cell) entries

-- the value of a cell: the one that was set last, or the one that the program begins with
unfoldable pub value_at : Contents → ℕ → ℕ
value_at m cell = unwrap_or (option_map (λ e. e.value) (entry_at m.touched cell)) (initial_value m.image cell)

-- the time at which it was set, or 0
unfoldable pub time_at : Contents → ℕ → ℕ
time_at m cell = unwrap_or (option_map (λ e. e.time) (entry_at m.touched cell)) 0

-- One cell was set, and no other changes.
pub record IsSet (old new : Contents) (cell value time : ℕ) : Type 0 where
  pub image : new.image ≡ old.image
  pub value_set : value_at new cell ≡ value
  pub time_set : time_at new cell ≡ time
  pub other_values : (other : ℕ) → other ≢ cell → value_at new other ≡ value_at old other
  pub other_times : (other : ℕ) → other ≢ cell → time_at new other ≡ time_at old other

-- The cells that were set, each once and by rising number, with their values and times.
pub record IsTable (m : Contents) (entries : List TableEntry) : Type 0 where
  pub rising : IsRising (map (λ e. e.cell) entries)
  pub cells : (e : TableEntry) → Contains entries e → IsTrue (is_cell 2 e.cell)
  pub set_only : (e : TableEntry) → Contains entries e → (0 < e.time) × (e.value ≡ value_at m e.cell) × (e.time ≡ time_at m e.cell)
  pub all_set : (cell : ℕ) → 0 < time_at m cell → Contains entries (record { cell = cell; value = value_at m cell; time = time_at m cell })
