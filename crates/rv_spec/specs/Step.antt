-- The machine and one step of it: RISC-V Unprivileged ISA, RV32I, "M" and "A" on one hart. The numbers of environment calls (63 read, 64 write, 93 exit, 94 exit_group) and of errors (9 EBADF, 38 ENOSYS) are those of Linux; what the calls do is this project's own.
use Rattle.std.specs.Prelude.{ℕ, ◌+◌, ◌-◌, ◌%◌, ◌^◌, min, ◌||◌, List, [], ◌∷◌, ◌++◌, length, take, drop, replicate, slice_index, slice_set, Option, Some, None, ◌==◌, if◌then◌else◌}
use Rattle.std.specs.Int.{w16, w32, cast_unsigned, from_le_bytes, to_le_bytes}
use Rattle.rv_base.specs.declared.cells.TheConstants.{STACK_TOP}
use Rattle.rv_base.specs.declared.machine.TheConstants.{EXIT, ILLEGAL_WORD, BREAKPOINT, MISALIGNED_JUMP, MISALIGNED_LOAD, MISALIGNED_STORE, READ, WRITE, EXIT_CALL, EXIT_GROUP, BAD_DESCRIPTOR, NO_SUCH_CALL}
use Rattle.rv_base.specs.declared.record.End.{End}
use Rattle.rv_base.specs.declared.instr.LoadKind.{LoadKind}
use Rattle.rv_base.specs.declared.instr.LoadKind.TheVariants as loads
use Rattle.rv_base.specs.declared.instr.StoreKind.{StoreKind}
use Rattle.rv_base.specs.declared.instr.StoreKind.TheVariants as stores
use Rattle.rv_base.specs.declared.instr.Instr.{Instr}
use Rattle.rv_base.specs.declared.instr.Instr.TheVariants.{Lui, Auipc, Jal, Jalr, Branch, Load, Store, OpImm, Op as OpReg, Fence, Ecall, Ebreak}
use Rattle.rv_base.specs.declared.instr.AtomicOp.{AtomicOp}
use Rattle.rv_base.specs.declared.instr.AtomicOp.TheVariants as amo
use Rattle.rv_base.specs.declared.instr.Atomic.{Atomic}
use Rattle.rv_spec.specs.Words.{Memory, byte, bytes_from, store_bytes, sign_extend, plus}
use Rattle.rv_spec.specs.Elf.{Image}
use Rattle.rv_spec.specs.Decode.{AnyInstr, rv32im, rv32a, decode_any}
use Rattle.rv_spec.specs.Arithmetic.{compute, taken, amo_result}

-- The state of the machine. The registers are x1 to x31, the position is that of the next input byte.
pub record State : Type 0 where
  pub version : ℕ
  pub pc : ℕ
  pub registers : List ℕ
  pub reservation : ℕ
  pub memory : Memory
  pub position : ℕ
  pub output : List ℕ

-- the state before the first step: x2 points to the top of the stack, and all other registers are 0 (this project's own)
abbrev pub start : Image → State
start i = record {
  version = i.version;
  pc = i.entry;
  registers = 0 ∷ STACK_TOP ∷ replicate 29 0;
  reservation = 0;
  memory = record { blocks = i.blocks; written = [] };
  position = 0;
  output = [];
}

-- where a step leads: to a state, or to the end of the run
pub data Transition : Type 0 where
  Next : State → Transition
  Ends : End → Transition

-- register r, where x0 is 0
abbrev pub register : State → ℕ → ℕ
register s r = if r == 0 then 0 else slice_index s.registers (r - 1)

-- the state with v in register r, where x0 stays 0
abbrev pub with_register : ℕ → ℕ → State → State
with_register r v s = record s { registers = if r == 0 then s.registers else slice_set s.registers (r - 1) v }

abbrev pub with_memory : Memory → State → State
with_memory m s = record s { memory = m }

-- the run ends, by an exit with a code or by another kind of end (this project's own)
abbrev pub exits : ℕ → Transition
exits code = Ends (record { kind = EXIT; code = code })

abbrev pub stops : ℕ → Transition
stops kind = Ends (record { kind = kind; code = 0 })

-- on to the next instruction, or to a target, which has to be a multiple of 4 (RV32I "Control Transfer Instructions"; that a misaligned one ends the run is this project's own)
abbrev pub advance : State → Transition
advance s = Next (record s { pc = (s.pc + 4) % 2 ^ 32 })

abbrev pub jump : ℕ → State → Transition
jump target s = if target % 4 == 0 then Next (record s { pc = target }) else stops MISALIGNED_JUMP

-- the bytes that a load or store moves
abbrev pub load_width : LoadKind → ℕ
load_width loads.B = 1
load_width loads.H = 2
load_width loads.W = 4
load_width loads.Bu = 1
load_width loads.Hu = 2

abbrev pub store_width : StoreKind → ℕ
store_width stores.B = 1
store_width stores.H = 2
store_width stores.W = 4

-- what a load from an address gives
unfoldable pub load_value : LoadKind → Memory → ℕ → ℕ
load_value loads.B m a = cast_unsigned w32 (sign_extend 8 (byte m a))
load_value loads.H m a = cast_unsigned w32 (sign_extend 16 (from_le_bytes w16 (bytes_from m a 2)))
load_value loads.W m a = from_le_bytes w32 (bytes_from m a 4)
load_value loads.Bu m a = byte m a
load_value loads.Hu m a = from_le_bytes w16 (bytes_from m a 2)

-- memory after a store of the low bytes of v
unfoldable pub store_value : StoreKind → Memory → ℕ → ℕ → Memory
store_value k m a v = store_bytes m a (take (store_width k) (to_le_bytes w32 v))

abbrev pub store_word : Memory → ℕ → ℕ → Memory
store_word m a v = store_bytes m a (to_le_bytes w32 v)

-- how many bytes a call moves: as many as it asks for, but none past the word in which its buffer begins
abbrev pub within_word : ℕ → ℕ → ℕ
within_word buffer len = min len (4 - buffer % 4)

-- an environment call returns its value in a0, which is x10 (RISC-V psABI)
abbrev pub return_in_a0 : ℕ → State → Transition
return_in_a0 v s = advance (with_register 10 v s)

-- read from standard input: the next k bytes of the input go into the buffer
abbrev pub read_call : List ℕ → State → Transition
read_call input s =
    let buffer = register s 11 in
    let k = min (length input - s.position) (within_word buffer (register s 12)) in
    let with_bytes = record s { memory = store_bytes s.memory buffer (take k (drop s.position input)); position = s.position + k } in
    if register s 10 == 0 then return_in_a0 k with_bytes else return_in_a0 BAD_DESCRIPTOR s

-- write to standard output, or to standard error, which is not kept
abbrev pub write_call : State → Transition
write_call s =
    let buffer = register s 11 in
    let k = within_word buffer (register s 12) in
    let put = record s { output = s.output ++ bytes_from s.memory buffer k } in
    if register s 10 == 1 then return_in_a0 k put else (if register s 10 == 2 then return_in_a0 (register s 12) s else return_in_a0 BAD_DESCRIPTOR s)

-- ECALL, by the number in x17: exit, read, write; no other call is known
unfoldable pub environment_call : List ℕ → State → Transition
environment_call input s =
    let number = register s 17 in
    if number == EXIT_CALL || number == EXIT_GROUP then exits (register s 10)
    else (if number == READ then read_call input s
    else (if number == WRITE then write_call s
    else return_in_a0 NO_SUCH_CALL s))

-- an instruction of RV32I or M
unfoldable pub execute : List ℕ → Instr → State → Transition
execute input (Lui rd imm) s = advance (with_register rd imm s)
execute input (Auipc rd imm) s = advance (with_register rd ((s.pc + imm) % 2 ^ 32) s)
execute input (Jal rd off) s = jump (plus s.pc off) (with_register rd ((s.pc + 4) % 2 ^ 32) s)
execute input (Jalr rd rs1 imm) s =
    let sum = plus (register s rs1) imm in
    jump (sum - sum % 2) (with_register rd ((s.pc + 4) % 2 ^ 32) s)
execute input (Branch cond rs1 rs2 off) s =
    if taken cond (register s rs1) (register s rs2) then jump (plus s.pc off) s else advance s
execute input (Load kind rd rs1 imm) s =
    let a = plus (register s rs1) imm in
    if a % load_width kind == 0 then advance (with_register rd (load_value kind s.memory a) s) else stops MISALIGNED_LOAD
execute input (Store kind rs1 rs2 imm) s =
    let a = plus (register s rs1) imm in
    if a % store_width kind == 0 then advance (with_memory (store_value kind s.memory a (register s rs2)) s) else stops MISALIGNED_STORE
execute input (OpImm op rd rs1 imm) s = advance (with_register rd (compute op (register s rs1) (cast_unsigned w32 imm)) s)
execute input (OpReg op rd rs1 rs2) s = advance (with_register rd (compute op (register s rs1) (register s rs2)) s)
execute input (Fence rd rs1 imm) s = advance s
execute input Ecall s = environment_call input s
execute input Ebreak s = stops BREAKPOINT

-- LR.W keeps its address and 1 as the reservation; SC.W stores where the reservation is of its own address, and ends it either way; an AMO combines the word with a register and leaves the reservation. This profile of one hart is the project's own.
abbrev pub load_reserved : ℕ → ℕ → State → Transition
load_reserved rd a s = advance (record (with_register rd (load_value loads.W s.memory a) s) { reservation = a + 1 })

abbrev pub store_conditional : ℕ → ℕ → ℕ → State → Transition
store_conditional rd a v s =
    if s.reservation == a + 1
    then advance (record (with_register rd 0 (with_memory (store_word s.memory a v) s)) { reservation = 0 })
    else advance (record (with_register rd 1 s) { reservation = 0 })

abbrev pub fetch_and : AtomicOp → ℕ → ℕ → ℕ → State → Transition
fetch_and op rd a v s =
    let old = load_value loads.W s.memory a in
    advance (with_register rd old (with_memory (store_word s.memory a (amo_result op old v)) s))

abbrev pub atomic_at : AtomicOp → ℕ → ℕ → ℕ → State → Transition
atomic_at amo.Lr rd a v s = if a % 4 == 0 then load_reserved rd a s else stops MISALIGNED_LOAD
atomic_at amo.Sc rd a v s = if a % 4 == 0 then store_conditional rd a v s else stops MISALIGNED_STORE
atomic_at op rd a v s = if a % 4 == 0 then fetch_and op rd a v s else stops MISALIGNED_STORE

unfoldable pub execute_atomic : Atomic → State → Transition
execute_atomic i s = atomic_at i.op i.rd (register s i.rs1) (register s i.rs2) s

abbrev pub execute_any : List ℕ → AnyInstr → State → Transition
execute_any input (rv32im i) s = execute input i s
execute_any input (rv32a i) s = execute_atomic i s

-- the word at pc
abbrev pub fetch_word : State → ℕ
fetch_word s = from_le_bytes w32 (bytes_from s.memory s.pc 4)

abbrev pub execute_if : List ℕ → Option AnyInstr → State → Transition
execute_if input None s = stops ILLEGAL_WORD
execute_if input (Some i) s = execute_any input i s

-- One step: the word at pc is fetched, decoded and executed. A fetch sees every earlier store, and a word that is no instruction ends the run (this project's own).
unfoldable pub step : List ℕ → State → Transition
step input s = execute_if input (decode_any s.version (fetch_word s)) s
