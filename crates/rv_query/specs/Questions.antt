-- The answers to questions on a file: what its rows show of a cell and of the registers before a step (this project's own).
use Rattle.std.specs.Prelude.{ℕ, List, map, Option, Some, None, option_map, unwrap_or, slice_get, nat_lt, ◌==◌, if◌then◌else◌}
use Rattle.std.specs.List.{range_with_len}
use Rattle.rv_spec.specs.Elf.{Image, image}
use Rattle.rv_spec.specs.Step.{State, register}
use Rattle.rv_spec.specs.Cells.{register_cell, initial_value}
use Rattle.rv_spec.specs.Trace.{Row}
use Rattle.rv_spec.specs.Record.{Parts, all_rows}
use Rattle.rv_query.specs.Accesses.{numbered, own_time, last_access, last_change}
use Rattle.rv_query.specs.declared.questions.CellSeen.{CellSeen}
use Rattle.rv_query.specs.declared.questions.Snapshot.{Snapshot}

-- What rows show of a cell before a step: what the last access left, and when, or the initial value and 0; and the step of the last access that changed it.
unfoldable pub cell_seen : Image → List Row → ℕ → ℕ → CellSeen
cell_seen i rs cell step =
    let last = last_access (numbered 0 rs) cell step in
    record {
      value = unwrap_or (option_map (λ a. a.access.new) last) (initial_value i cell);
      time = unwrap_or (option_map own_time last) 0;
      changed = option_map (λ a. a.step) (last_change (numbered 0 rs) cell step);
    }

-- what they show of a register; x0 is 0
abbrev pub register_seen : Image → List Row → ℕ → ℕ → ℕ
register_seen i rs step r = if r == 0 then 0 else (cell_seen i rs (register_cell r) step).value

-- the place of the row of a step, with the registers that the rows show
unfoldable pub state_seen : Image → List Row → ℕ → Snapshot
state_seen i rs step = record {
  pc = unwrap_or (option_map (λ (r : Row). r.pc) (slice_get rs step)) 0;
  regs = map (register_seen i rs step) (range_with_len 0 32);
}

-- The answers on the parts of a file, for a program: none where the file has no such step.
abbrev pub image_of : List ℕ → Parts → Image
image_of elf p = image p.header.version elf

abbrev pub cell_answer : List ℕ → Parts → ℕ → ℕ → Option CellSeen
cell_answer elf p cell step = if nat_lt step p.header.steps then Some (cell_seen (image_of elf p) (all_rows p) cell step) else None

abbrev pub state_answer : List ℕ → Parts → ℕ → Option Snapshot
state_answer elf p step = if nat_lt step p.header.steps then Some (state_seen (image_of elf p) (all_rows p) step) else None

-- the registers and the place of a state of the machine
unfoldable pub snapshot : State → Snapshot
snapshot s = record { pc = s.pc; regs = map (register s) (range_with_len 0 32) }
