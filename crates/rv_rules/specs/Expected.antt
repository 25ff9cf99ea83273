-- The step that a row has to make, by the row's own old values: the instructions of the RISC-V Unprivileged ISA as Step has them, but without a memory and without registers.
use Rattle.std.specs.Prelude.{ℕ, ◌+◌, ◌-◌, ◌/◌, ◌%◌, ◌^◌, min, ◌||◌, List, [], ◌∷◌, ◌++◌, length, take, drop, Option, Some, None, ◌==◌, if◌then◌else◌}
use Rattle.std.specs.Int.{w32, cast_unsigned, from_le_bytes, to_le_bytes}
use Rattle.rv_base.specs.declared.cells.TheConstants.{FETCH_SLOT, RS1_SLOT, RS2_SLOT, A1_SLOT, A2_SLOT, MEMORY_SLOT, RD_SLOT, RESERVATION_SLOT}
use Rattle.rv_base.specs.declared.machine.TheConstants.{EXIT, ILLEGAL_WORD, BREAKPOINT, MISALIGNED_JUMP, MISALIGNED_LOAD, MISALIGNED_STORE, READ, WRITE, EXIT_CALL, EXIT_GROUP, BAD_DESCRIPTOR, NO_SUCH_CALL}
use Rattle.rv_base.specs.declared.record.End.{End}
use Rattle.rv_base.specs.declared.record.Seen.{Seen}
use Rattle.rv_base.specs.declared.record.Touch.{Touch}
use Rattle.rv_base.specs.declared.instr.LoadKind.{LoadKind}
use Rattle.rv_base.specs.declared.instr.LoadKind.TheVariants as loads
use Rattle.rv_base.specs.declared.instr.StoreKind.{StoreKind}
use Rattle.rv_base.specs.declared.instr.Instr.{Instr}
use Rattle.rv_base.specs.declared.instr.Instr.TheVariants.{Lui, Auipc, Jal, Jalr, Branch, Load, Store, OpImm, Op, Fence, Ecall, Ebreak}
use Rattle.rv_base.specs.declared.instr.AtomicOp.{AtomicOp}
use Rattle.rv_base.specs.declared.instr.AtomicOp.TheVariants as amo
use Rattle.rv_base.specs.declared.instr.Atomic.{Atomic}
use Rattle.rv_spec.specs.Words.{plus, sign_extend}
use Rattle.rv_spec.specs.Decode.{AnyInstr, rv32im, rv32a, decode_any}
use Rattle.rv_spec.specs.Arithmetic.{compute, taken, amo_result}
use Rattle.rv_spec.specs.Step.{load_width, store_width, within_word}
use Rattle.rv_spec.specs.Cells.{register_cell, reservation_cell}

-- The accesses with their new values, where the run goes on, how it ends, the input bytes taken and the output bytes put.
pub record Expected : Type 0 where
  pub touches : List Touch
  pub next : ℕ
  pub end : Option End
  pub took : ℕ
  pub put : List ℕ

-- ---- bytes within a word

-- what a load gives of a word, from byte lane on
unfoldable pub extract : LoadKind → ℕ → ℕ → ℕ
extract loads.B word lane = cast_unsigned w32 (sign_extend 8 (word / 256 ^ lane % 2 ^ 8))
extract loads.H word lane = cast_unsigned w32 (sign_extend 16 (word / 256 ^ lane % 2 ^ 16))
extract loads.W word lane = word
extract loads.Bu word lane = word / 256 ^ lane % 2 ^ 8
extract loads.Hu word lane = word / 256 ^ lane % 2 ^ 16

-- the word with these bytes from byte lane on
unfoldable pub splice : ℕ → ℕ → List ℕ → ℕ
splice word lane bytes = from_le_bytes w32 (take lane (to_le_bytes w32 word) ++ bytes ++ drop (lane + length bytes) (to_le_bytes w32 word))

-- the word after a store of the low bytes of v
abbrev pub merge : StoreKind → ℕ → ℕ → ℕ → ℕ
merge kind word lane v = splice word lane (take (store_width kind) (to_le_bytes w32 v))

-- ---- accesses

abbrev pub touch : ℕ → ℕ → ℕ → List Touch
touch slot cell new = record { slot = slot; cell = cell; new = new } ∷ []

-- of a register; x0 is never accessed
abbrev pub on_register : ℕ → ℕ → ℕ → List Touch
on_register slot r new = if r == 0 then [] else touch slot (register_cell r) new

-- the value of a register slot, where x0 is 0
abbrev pub operand : ℕ → ℕ → ℕ
operand r v = if r == 0 then 0 else v

-- one or two registers are read
abbrev pub reads_one : ℕ → Seen → List Touch
reads_one rs1 v = on_register RS1_SLOT rs1 v.s2

abbrev pub reads_two : ℕ → ℕ → Seen → List Touch
reads_two rs1 rs2 v = on_register RS1_SLOT rs1 v.s2 ++ on_register RS2_SLOT rs2 v.s3

-- ---- how a step goes on

abbrev pub goes_to : ℕ → List Touch → Expected
goes_to next ts = record { touches = ts; next = next; end = None; took = 0; put = [] }

-- a step that ends the run stays where it is
abbrev pub ends : ℕ → ℕ → ℕ → List Touch → Expected
ends pc kind code ts = record { touches = ts; next = pc; end = Some (record { kind = kind; code = code }); took = 0; put = [] }

abbrev pub pc_plus_4 : ℕ → ℕ
pc_plus_4 pc = (pc + 4) % 2 ^ 32

-- a jump reads, and writes only where its target is aligned
abbrev pub jumps : ℕ → ℕ → List Touch → List Touch → Expected
jumps pc target reads writes = if target % 4 == 0 then goes_to target (reads ++ writes) else ends pc MISALIGNED_JUMP 0 reads

-- a load or store, whose accesses after its reads need an aligned address
abbrev pub moves : ℕ → ℕ → ℕ → ℕ → List Touch → List Touch → Expected
moves pc width a kind reads writes = if a % width == 0 then goes_to (pc_plus_4 pc) (reads ++ writes) else ends pc kind 0 reads

-- ---- calls of the environment: x17 has the number, x10 to x12 the arguments

abbrev pub argument_touches : Seen → List Touch
argument_touches v = on_register RS1_SLOT 17 v.s2 ++ on_register RS2_SLOT 10 v.s3 ++ on_register A1_SLOT 11 v.s4 ++ on_register A2_SLOT 12 v.s5

abbrev pub on_buffer : ℕ → ℕ → ℕ → List Touch
on_buffer buffer k new = if k == 0 then [] else touch MEMORY_SLOT (buffer / 4) new

abbrev pub expected_return : ℕ → List Touch → ℕ → Expected
expected_return pc ts v = goes_to (pc_plus_4 pc) (ts ++ on_register RD_SLOT 10 v)

abbrev pub expected_read : List ℕ → ℕ → ℕ → Seen → Expected
expected_read input at pc v =
    let k = min (length input - at) (within_word v.s4 v.s5) in
    let filled = on_buffer v.s4 k (splice v.s6 (v.s4 % 4) (take k (drop at input))) in
    if v.s3 == 0 then record (expected_return pc (argument_touches v ++ filled) k) { took = k } else expected_return pc (argument_touches v) BAD_DESCRIPTOR

abbrev pub expected_write : ℕ → Seen → Expected
expected_write pc v =
    let k = within_word v.s4 v.s5 in
    let bytes = take k (drop (v.s4 % 4) (to_le_bytes w32 v.s6)) in
    if v.s3 == 1 then record (expected_return pc (argument_touches v ++ on_buffer v.s4 k v.s6) k) { put = bytes }
    else (if v.s3 == 2 then expected_return pc (argument_touches v) v.s5 else expected_return pc (argument_touches v) BAD_DESCRIPTOR)

unfoldable pub expected_call : List ℕ → ℕ → ℕ → Seen → Expected
expected_call input at pc v =
    if v.s2 == EXIT_CALL || v.s2 == EXIT_GROUP then ends pc EXIT v.s3 (on_register RS1_SLOT 17 v.s2 ++ on_register RS2_SLOT 10 v.s3)
    else (if v.s2 == READ then expected_read input at pc v
    else (if v.s2 == WRITE then expected_write pc v
    else expected_return pc (on_register RS1_SLOT 17 v.s2) NO_SUCH_CALL))

-- ---- each instruction, without its fetch

unfoldable pub expected_instr : List ℕ → ℕ → ℕ → Instr → Seen → Expected
expected_instr input at pc (Lui rd imm) v = goes_to (pc_plus_4 pc) (on_register RD_SLOT rd imm)
expected_instr input at pc (Auipc rd imm) v = goes_to (pc_plus_4 pc) (on_register RD_SLOT rd ((pc + imm) % 2 ^ 32))
expected_instr input at pc (Jal rd off) v = jumps pc (plus pc off) [] (on_register RD_SLOT rd (pc_plus_4 pc))
expected_instr input at pc (Jalr rd rs1 imm) v =
    let sum = plus (operand rs1 v.s2) imm in
    jumps pc (sum - sum % 2) (reads_one rs1 v) (on_register RD_SLOT rd (pc_plus_4 pc))
expected_instr input at pc (Branch cond rs1 rs2 off) v =
    if taken cond (operand rs1 v.s2) (operand rs2 v.s3) then jumps pc (plus pc off) (reads_two rs1 rs2 v) []
    else goes_to (pc_plus_4 pc) (reads_two rs1 rs2 v)
expected_instr input at pc (Load kind rd rs1 imm) v =
    let a = plus (operand rs1 v.s2) imm in
    moves pc (load_width kind) a MISALIGNED_LOAD (reads_one rs1 v) (touch MEMORY_SLOT (a / 4) v.s6 ++ on_register RD_SLOT rd (extract kind v.s6 (a % 4)))
expected_instr input at pc (Store kind rs1 rs2 imm) v =
    let a = plus (operand rs1 v.s2) imm in
    moves pc (store_width kind) a MISALIGNED_STORE (reads_two rs1 rs2 v) (touch MEMORY_SLOT (a / 4) (merge kind v.s6 (a % 4) (operand rs2 v.s3)))
expected_instr input at pc (OpImm op rd rs1 imm) v =
    goes_to (pc_plus_4 pc) (reads_one rs1 v ++ on_register RD_SLOT rd (compute op (operand rs1 v.s2) (cast_unsigned w32 imm)))
expected_instr input at pc (Op op rd rs1 rs2) v =
    goes_to (pc_plus_4 pc) (reads_two rs1 rs2 v ++ on_register RD_SLOT rd (compute op (operand rs1 v.s2) (operand rs2 v.s3)))
expected_instr input at pc (Fence rd rs1 imm) v = goes_to (pc_plus_4 pc) []
expected_instr input at pc Ecall v = expected_call input at pc v
expected_instr input at pc Ebreak v = ends pc BREAKPOINT 0 []

-- what an aligned atomic instruction writes, at address a with the operand b
abbrev pub atomic_writes : AtomicOp → ℕ → ℕ → ℕ → Seen → List Touch
atomic_writes amo.Lr rd a b v = touch MEMORY_SLOT (a / 4) v.s6 ++ on_register RD_SLOT rd v.s6 ++ touch RESERVATION_SLOT reservation_cell (a + 1)
atomic_writes amo.Sc rd a b v =
    (if v.s8 == a + 1 then touch MEMORY_SLOT (a / 4) b else []) ++ on_register RD_SLOT rd (if v.s8 == a + 1 then 0 else 1) ++ touch RESERVATION_SLOT reservation_cell 0
atomic_writes op rd a b v = touch MEMORY_SLOT (a / 4) (amo_result op v.s6 b) ++ on_register RD_SLOT rd v.s6

abbrev pub misaligned_kind : AtomicOp → ℕ
misaligned_kind amo.Lr = MISALIGNED_LOAD
misaligned_kind _ = MISALIGNED_STORE

unfoldable pub expected_atomic : ℕ → Atomic → Seen → Expected
expected_atomic pc i v =
    let a = operand i.rs1 v.s2 in
    let b = operand i.rs2 v.s3 in
    moves pc 4 a (misaligned_kind i.op) (reads_two i.rs1 i.rs2 v) (atomic_writes i.op i.rd a b v)

abbrev pub expected_any : List ℕ → ℕ → ℕ → Option AnyInstr → Seen → Expected
expected_any input at pc None v = ends pc ILLEGAL_WORD 0 []
expected_any input at pc (Some (rv32im i)) v = expected_instr input at pc i v
expected_any input at pc (Some (rv32a i)) v = expected_atomic pc i v

-- The expected step at pc and an input position, by the old value in each slot. The fetch comes first.
unfoldable pub expected : ℕ → ℕ → Seen → List ℕ → ℕ → Expected
expected version pc v input at =
    let e = expected_any input at pc (decode_any version v.s1) v in
    record e { touches = touch FETCH_SLOT (pc / 4) v.s1 ++ e.touches }
