-- The state that a hart stands for which goes on from listed cells.
use Rattle.std.specs.Prelude.{◌≡◌, ℕ, ◌-◌, ◌*◌, List, [], ◌∷◌, nat_lt, ◌==◌, if◌then◌else◌, IsTrue}
use Rattle.rv_base.specs.declared.cells.TheConstants.{REGISTER_CELLS, RESERVATION_CELL}
use Rattle.rv_base.specs.declared.record.Place.{Place}
use Rattle.rv_base.specs.declared.record.TableEntry.{TableEntry}
use Rattle.rv_spec.specs.Elf.{Image}
use Rattle.rv_spec.specs.Step.{State, start, store_word, with_memory, with_register}
use Rattle.rv_spec.specs.Cells.{is_cell, initial_value}
use Rattle.rv_mem.specs.Contents.{value_at, time_at}
use Rattle.rv_isa.specs.HartState.{HartState}

-- A cell that a hart may go on from: with time 0 it holds what the program begins with.
pub record IsKnown (i : Image) (e : TableEntry) : Type 0 where
  pub cell : IsTrue (is_cell 2 e.cell)
  pub unused : e.time ≡ 0 → e.value ≡ initial_value i e.cell

-- the listed cells hold their values and times, and all others what the program begins with, at time 0
pub record HoldsListed (h : HartState) (i : Image) (entries : List TableEntry) : Type 0 where
  pub values : (c : ℕ) → value_at h.cells c ≡ value_at (record { image = i; touched = entries }) c
  pub times : (c : ℕ) → time_at h.cells c ≡ time_at (record { image = i; touched = entries }) c

-- the state with a value in a cell
unfoldable pub with_cell : ℕ → ℕ → State → State
with_cell c v s = if nat_lt c REGISTER_CELLS then with_memory (store_word s.memory (4 * c) v) s else (if c == RESERVATION_CELL then record s { reservation = v } else with_register (c - REGISTER_CELLS) v s)

abbrev pub with_cells : List TableEntry → State → State
with_cells [] s = s
with_cells (e ∷ es) s = with_cell e.cell e.value (with_cells es s)

-- the state before the first step with the values of the listed cells, at a place of the run; it has put nothing
abbrev pub resumed : Image → Place → List TableEntry → State
resumed i place entries = record (with_cells entries (start i)) { pc = place.pc; position = place.input }
