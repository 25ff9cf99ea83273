-- The cells that a step uses, in its slots, and what it finds and leaves there (this project's own). The slots in order are the fetch, four register reads, the word of memory, the register that is written, and the reservation.
use Rattle.std.specs.Prelude.{ℕ, ◌+◌, ◌-◌, ◌/◌, ◌%◌, min, ◌||◌, List, [], ◌∷◌, ◌++◌, length, map, Option, Some, None, nat_le, ◌==◌, if◌then◌else◌}
use Rattle.rv_base.specs.declared.cells.TheConstants.{FETCH_SLOT, RS1_SLOT, RS2_SLOT, A1_SLOT, A2_SLOT, MEMORY_SLOT, RD_SLOT, RESERVATION_SLOT}
use Rattle.rv_base.specs.declared.machine.TheConstants.{READ, WRITE, EXIT_CALL, EXIT_GROUP}
use Rattle.rv_base.specs.declared.instr.Instr.{Instr}
use Rattle.rv_base.specs.declared.instr.Instr.TheVariants.{Lui, Auipc, Jal, Jalr, Branch, Load, Store, OpImm, Op, Fence, Ecall, Ebreak}
use Rattle.rv_base.specs.declared.instr.AtomicOp.{AtomicOp}
use Rattle.rv_base.specs.declared.instr.AtomicOp.TheVariants as amo
use Rattle.rv_base.specs.declared.instr.Atomic.{Atomic}
use Rattle.rv_spec.specs.Words.{plus}
use Rattle.rv_spec.specs.Decode.{AnyInstr, rv32im, rv32a, decode_any}
use Rattle.rv_spec.specs.Step.{State, register, load_width, store_width, within_word, fetch_word}
use Rattle.rv_spec.specs.Run.{next_state}
use Rattle.rv_spec.specs.Cells.{register_cell, reservation_cell, value}

-- a slot and the cell that it uses
pub record Use : Type 0 where
  pub slot : ℕ
  pub cell : ℕ

abbrev pub use_of : ℕ → ℕ → List Use
use_of slot cell = record { slot = slot; cell = cell } ∷ []

-- a register in a slot; x0 is never used
abbrev pub use_register : ℕ → ℕ → List Use
use_register slot r = if r == 0 then [] else use_of slot (register_cell r)

-- the uses, where a jump's target or an address is aligned
abbrev pub where_aligned : ℕ → ℕ → List Use → List Use
where_aligned width a uses = if a % width == 0 then uses else []

-- the word of a call's buffer, where the call moves bytes
abbrev pub use_buffer : ℕ → ℕ → List Use
use_buffer buffer k = if k == 0 then [] else use_of MEMORY_SLOT (buffer / 4)

abbrev pub argument_uses : List Use
argument_uses = use_register RS1_SLOT 17 ++ use_register RS2_SLOT 10 ++ use_register A1_SLOT 11 ++ use_register A2_SLOT 12

abbrev pub call_uses : List ℕ → State → List Use
call_uses input s =
    let number = register s 17 in
    let buffer = register s 11 in
    let k = within_word buffer (register s 12) in
    if number == EXIT_CALL || number == EXIT_GROUP then use_register RS1_SLOT 17 ++ use_register RS2_SLOT 10
    else (if number == READ then argument_uses ++ use_buffer buffer (if register s 10 == 0 then min (length input - s.position) k else 0) ++ use_register RD_SLOT 10
    else (if number == WRITE then argument_uses ++ use_buffer buffer (if register s 10 == 1 then k else 0) ++ use_register RD_SLOT 10
    else use_register RS1_SLOT 17 ++ use_register RD_SLOT 10))

-- the slots after the fetch that an instruction uses
unfoldable pub uses : List ℕ → Instr → State → List Use
uses input (Lui rd imm) s = use_register RD_SLOT rd
uses input (Auipc rd imm) s = use_register RD_SLOT rd
uses input (Jal rd off) s = where_aligned 4 (plus s.pc off) (use_register RD_SLOT rd)
uses input (Jalr rd rs1 imm) s =
    let sum = plus (register s rs1) imm in
    use_register RS1_SLOT rs1 ++ where_aligned 4 (sum - sum % 2) (use_register RD_SLOT rd)
uses input (Branch cond rs1 rs2 off) s = use_register RS1_SLOT rs1 ++ use_register RS2_SLOT rs2
uses input (Load kind rd rs1 imm) s =
    let a = plus (register s rs1) imm in
    use_register RS1_SLOT rs1 ++ where_aligned (load_width kind) a (use_of MEMORY_SLOT (a / 4) ++ use_register RD_SLOT rd)
uses input (Store kind rs1 rs2 imm) s =
    let a = plus (register s rs1) imm in
    use_register RS1_SLOT rs1 ++ use_register RS2_SLOT rs2 ++ where_aligned (store_width kind) a (use_of MEMORY_SLOT (a / 4))
uses input (OpImm op rd rs1 imm) s = use_register RS1_SLOT rs1 ++ use_register RD_SLOT rd
uses input (Op op rd rs1 rs2) s = use_register RS1_SLOT rs1 ++ use_register RS2_SLOT rs2 ++ use_register RD_SLOT rd
uses input (Fence rd rs1 imm) s = []
uses input Ecall s = call_uses input s
uses input Ebreak s = []

abbrev pub aligned_atomic_uses : AtomicOp → ℕ → ℕ → State → List Use
aligned_atomic_uses amo.Lr rd a s = use_of MEMORY_SLOT (a / 4) ++ use_register RD_SLOT rd ++ use_of RESERVATION_SLOT reservation_cell
aligned_atomic_uses amo.Sc rd a s = (if s.reservation == a + 1 then use_of MEMORY_SLOT (a / 4) else []) ++ use_register RD_SLOT rd ++ use_of RESERVATION_SLOT reservation_cell
aligned_atomic_uses op rd a s = use_of MEMORY_SLOT (a / 4) ++ use_register RD_SLOT rd

-- of an LR.W the field rs2 is 0
unfoldable pub atomic_uses : Atomic → State → List Use
atomic_uses i s =
    let a = register s i.rs1 in
    use_register RS1_SLOT i.rs1 ++ use_register RS2_SLOT i.rs2 ++ where_aligned 4 a (aligned_atomic_uses i.op i.rd a s)

abbrev pub instruction_uses : List ℕ → Option AnyInstr → State → List Use
instruction_uses input None s = []
instruction_uses input (Some (rv32im i)) s = uses input i s
instruction_uses input (Some (rv32a i)) s = atomic_uses i s

unfoldable pub step_uses : List ℕ → State → List Use
step_uses input s = use_of FETCH_SLOT (s.pc / 4) ++ instruction_uses input (decode_any s.version (fetch_word s)) s

-- A step's use of a cell, with the cell's value before it and after it.
pub record Visit : Type 0 where
  pub slot : ℕ
  pub cell : ℕ
  pub old : ℕ
  pub new : ℕ

-- the fetch and the register reads leave what they find
abbrev pub visit : State → State → Use → Visit
visit s t u = record { slot = u.slot; cell = u.cell; old = value s u.cell; new = if nat_le u.slot A2_SLOT then value s u.cell else value t u.cell }

unfoldable pub visits : List ℕ → State → List Visit
visits input s = map (visit s (next_state input s)) (step_uses input s)
