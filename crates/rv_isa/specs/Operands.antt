-- Where an instruction finds what it uses.
use Rattle.std.specs.Prelude.{◌≡◌, ℕ, ◌/◌, ◌<◌, Option, Some, None, ◌==◌, if◌then◌else◌}
use Rattle.rv_base.specs.declared.cells.TheConstants.{REGISTER_CELLS, RS1_SLOT, RS2_SLOT, A1_SLOT, A2_SLOT, MEMORY_SLOT, RD_SLOT}
use Rattle.rv_spec.specs.Words.{plus}
use Rattle.rv_spec.specs.Step.{State, register}
use Rattle.rv_spec.specs.Cells.{register_cell, reservation_cell}
use Rattle.rv_spec.specs.Visits.{Use}
use Rattle.rv_isa.specs.declared.operands.Address.{Address}
use Rattle.rv_isa.specs.declared.operands.Operands.{Operands}

-- the word of memory at the address, or no word's number
abbrev pub word_at : State → Option Address → ℕ
word_at s None = REGISTER_CELLS
word_at s (Some a) = plus (register s a.base) a.offset / 4

-- the cell of each slot after the fetch; x11 and x12 are arguments of calls
abbrev pub cell_in : Operands → State → ℕ → ℕ
cell_in o s slot =
    if slot == RS1_SLOT then register_cell o.rs1
    else (if slot == RS2_SLOT then register_cell o.rs2
    else (if slot == A1_SLOT then register_cell 11
    else (if slot == A2_SLOT then register_cell 12
    else (if slot == MEMORY_SLOT then word_at s o.address
    else (if slot == RD_SLOT then register_cell o.rd else reservation_cell)))))

-- the operands tell the cell of a use
abbrev pub IsCovered : Operands → State → Use → Type 0
IsCovered o s u = u.cell ≡ cell_in o s u.slot

-- the base of an address is a register
abbrev pub IsBased : Option Address → Type 0
IsBased None = Unit {0}
IsBased (Some a) = a.base < 32
