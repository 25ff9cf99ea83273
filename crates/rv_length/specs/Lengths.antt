-- How many bytes the record of a run has at most (this project's own), by its steps, its shards and its output.
use Rattle.std.specs.Prelude.{◌≡◌, ℕ, ◌+◌, ◌-◌, ◌*◌, ◌≤◌, List, length, None}
use Rattle.std.specs.Int.{div_ceil}
use Rattle.rv_base.specs.declared.cells.TheConstants.{REGISTER_CELLS, RESERVATION_CELL, SLOTS}
use Rattle.rv_base.specs.declared.layout.TheConstants.{HEADER_BYTES, HEAD_BYTES, ROW_BYTES, ACCESS_BYTES, DIGESTS_BYTES, COUNT_BYTES, ENTRY_BYTES}
use Rattle.rv_base.specs.declared.limits.TheConstants.{BUDGET_LIMIT, SHARDS_LIMIT, RECORD_LIMIT}
use Rattle.rv_base.specs.declared.record.End.{End}
use Rattle.rv_spec.specs.Words.{AreBytes}
use Rattle.rv_spec.specs.Elf.{image, first_fault}
use Rattle.rv_spec.specs.Run.{run}
use Rattle.rv_spec.specs.Digest.{Lanes}
use Rattle.rv_spec.specs.Record.{record_file}

-- ---- the bound

-- a step uses each slot once at most, and leaves one free: what uses the reservation takes no arguments of a call
abbrev pub uses_of_step : ℕ
uses_of_step = SLOTS - 1

abbrev pub row_bound : ℕ
row_bound = ROW_BYTES + uses_of_step * ACCESS_BYTES

-- the words of memory that a step uses: the fetched one, and the one of its load or store
abbrev pub words_of_step : ℕ
words_of_step = 2

-- all other cells: x1 to x31 and the reservation
abbrev pub other_cells : ℕ
other_cells = RESERVATION_CELL - REGISTER_CELLS

abbrev pub entries_bound : ℕ → ℕ
entries_bound steps = steps * words_of_step + other_cells

abbrev pub shards_bound : ℕ → ℕ → ℕ
shards_bound steps shards = shards * (HEAD_BYTES + DIGESTS_BYTES) + steps * row_bound

abbrev pub table_bound : ℕ → ℕ
table_bound steps = COUNT_BYTES + entries_bound steps * ENTRY_BYTES

-- the most bytes of a record of so many steps, shards and output bytes
abbrev pub record_bound : ℕ → ℕ → ℕ → ℕ
record_bound steps shards output = HEADER_BYTES + output + shards_bound steps shards + table_bound steps

-- ---- the laws, of the record of a run of n steps at a shard size, of a program without a fault

abbrev pub IsWithinBound : Lanes → ℕ → List ℕ → List ℕ → ℕ → ℕ → End → Type 0
IsWithinBound lanes version elf input size n e =
    AreBytes elf → AreBytes input → first_fault elf ≡ None → length (record_file lanes version elf input size n e) ≤ record_bound n (div_ceil n size) (length (run (image version elf) input n).output)

-- a run within the budget of the commands puts so few bytes that the record is below their limit
abbrev pub IsWithinLimit : Lanes → ℕ → List ℕ → List ℕ → ℕ → ℕ → End → Type 0
IsWithinLimit lanes version elf input size n e =
    AreBytes elf → AreBytes input → first_fault elf ≡ None → n ≤ BUDGET_LIMIT → div_ceil n size ≤ SHARDS_LIMIT → length (record_file lanes version elf input size n e) ≤ RECORD_LIMIT
