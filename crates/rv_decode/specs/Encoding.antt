-- The word of an instruction: RISC-V Unprivileged ISA, "Base Instruction Formats", "Immediate Encoding Variants" and the instruction set listings.
use Rattle.std.specs.Prelude.{ℕ, ◌+◌, ◌*◌, ◌%◌, ◌^◌, ℤ, pos, ◌+ℤ◌}
use Rattle.std.specs.Int.{w32, cast_unsigned}
use Rattle.rv_base.specs.declared.instr.Op.{Op}
use Rattle.rv_base.specs.declared.instr.Op.TheVariants.{Add, Sub, Sll, Slt, Sltu, Xor, Srl, Sra, Or, And, Mul, Mulh, Mulhsu, Mulhu, Div, Divu, Rem, Remu}
use Rattle.rv_base.specs.declared.instr.Cond.{Cond}
use Rattle.rv_base.specs.declared.instr.Cond.TheVariants as cond
use Rattle.rv_base.specs.declared.instr.LoadKind.{LoadKind}
use Rattle.rv_base.specs.declared.instr.LoadKind.TheVariants as load
use Rattle.rv_base.specs.declared.instr.StoreKind.{StoreKind}
use Rattle.rv_base.specs.declared.instr.StoreKind.TheVariants as store
use Rattle.rv_base.specs.declared.instr.Instr.{Instr}
use Rattle.rv_base.specs.declared.instr.Instr.TheVariants as instr
use Rattle.rv_base.specs.declared.instr.AtomicOp.{AtomicOp}
use Rattle.rv_base.specs.declared.instr.AtomicOp.TheVariants as amo
use Rattle.rv_base.specs.declared.instr.Atomic.{Atomic}
use Rattle.rv_spec.specs.Words.{bits_of}

-- opcode, rd, funct3, rs1, rs2 and funct7 in their places
abbrev pub r_type : ℕ → ℕ → ℕ → ℕ → ℕ → ℕ → ℕ
r_type o rd f rs1 rs2 g = o + rd * 2 ^ 7 + f * 2 ^ 12 + rs1 * 2 ^ 15 + rs2 * 2 ^ 20 + g * 2 ^ 25

-- the other formats have parts of an immediate in place of some of these fields
abbrev pub i_type : ℕ → ℕ → ℕ → ℕ → ℤ → ℕ
i_type o rd f rs1 imm = let n = cast_unsigned w32 imm in r_type o rd f rs1 (n % 2 ^ 5) (bits_of 5 7 n)

abbrev pub s_type : ℕ → ℕ → ℕ → ℕ → ℤ → ℕ
s_type o f rs1 rs2 imm = let n = cast_unsigned w32 imm in r_type o (n % 2 ^ 5) f rs1 rs2 (bits_of 5 7 n)

abbrev pub b_type : ℕ → ℕ → ℕ → ℕ → ℤ → ℕ
b_type o f rs1 rs2 off =
    let n = cast_unsigned w32 off in
    r_type o (bits_of 1 4 n * 2 + bits_of 11 1 n) f rs1 rs2 (bits_of 12 1 n * 2 ^ 6 + bits_of 5 6 n)

abbrev pub u_type : ℕ → ℕ → ℕ → ℕ
u_type o rd imm = o + rd * 2 ^ 7 + imm

abbrev pub j_type : ℕ → ℕ → ℤ → ℕ
j_type o rd off =
    let n = cast_unsigned w32 off in
    o + rd * 2 ^ 7 + bits_of 12 8 n * 2 ^ 12 + bits_of 11 1 n * 2 ^ 20 + bits_of 1 10 n * 2 ^ 21 + bits_of 20 1 n * 2 ^ 31

abbrev pub branch_funct3 : Cond → ℕ
branch_funct3 cond.Eq = 0
branch_funct3 cond.Ne = 1
branch_funct3 cond.Lt = 4
branch_funct3 cond.Ge = 5
branch_funct3 cond.Ltu = 6
branch_funct3 cond.Geu = 7

abbrev pub load_funct3 : LoadKind → ℕ
load_funct3 load.B = 0
load_funct3 load.H = 1
load_funct3 load.W = 2
load_funct3 load.Bu = 4
load_funct3 load.Hu = 5

abbrev pub store_funct3 : StoreKind → ℕ
store_funct3 store.B = 0
store_funct3 store.H = 1
store_funct3 store.W = 2

abbrev pub op_funct3 : Op → ℕ
op_funct3 Add = 0
op_funct3 Sub = 0
op_funct3 Sll = 1
op_funct3 Slt = 2
op_funct3 Sltu = 3
op_funct3 Xor = 4
op_funct3 Srl = 5
op_funct3 Sra = 5
op_funct3 Or = 6
op_funct3 And = 7
op_funct3 Mul = 0
op_funct3 Mulh = 1
op_funct3 Mulhsu = 2
op_funct3 Mulhu = 3
op_funct3 Div = 4
op_funct3 Divu = 5
op_funct3 Rem = 6
op_funct3 Remu = 7

abbrev pub op_funct7 : Op → ℕ
op_funct7 Add = 0x00
op_funct7 Sub = 0x20
op_funct7 Sll = 0x00
op_funct7 Slt = 0x00
op_funct7 Sltu = 0x00
op_funct7 Xor = 0x00
op_funct7 Srl = 0x00
op_funct7 Sra = 0x20
op_funct7 Or = 0x00
op_funct7 And = 0x00
op_funct7 Mul = 0x01
op_funct7 Mulh = 0x01
op_funct7 Mulhsu = 0x01
op_funct7 Mulhu = 0x01
op_funct7 Div = 0x01
op_funct7 Divu = 0x01
op_funct7 Rem = 0x01
op_funct7 Remu = 0x01

-- SRAI is told from SRLI by bit 10 of its immediate
abbrev pub immediate_mark : Op → ℕ
immediate_mark Sra = 2 ^ 10
immediate_mark _ = 0

unfoldable pub word_of : Instr → ℕ
word_of (instr.Lui rd imm) = u_type 0x37 rd imm
word_of (instr.Auipc rd imm) = u_type 0x17 rd imm
word_of (instr.Jal rd off) = j_type 0x6F rd off
word_of (instr.Jalr rd rs1 imm) = i_type 0x67 rd 0 rs1 imm
word_of (instr.Branch c rs1 rs2 off) = b_type 0x63 (branch_funct3 c) rs1 rs2 off
word_of (instr.Load kind rd rs1 imm) = i_type 0x03 rd (load_funct3 kind) rs1 imm
word_of (instr.Store kind rs1 rs2 imm) = s_type 0x23 (store_funct3 kind) rs1 rs2 imm
word_of (instr.OpImm op rd rs1 imm) = i_type 0x13 rd (op_funct3 op) rs1 (imm +ℤ pos (immediate_mark op))
word_of (instr.Op op rd rs1 rs2) = r_type 0x33 rd (op_funct3 op) rs1 rs2 (op_funct7 op)
word_of (instr.Fence rd rs1 imm) = i_type 0x0F rd 0 rs1 imm
word_of instr.Ecall = 0x00000073
word_of instr.Ebreak = 0x00100073

abbrev pub amo_funct5 : AtomicOp → ℕ
amo_funct5 amo.Lr = 0x02
amo_funct5 amo.Sc = 0x03
amo_funct5 amo.Swap = 0x01
amo_funct5 amo.Add = 0x00
amo_funct5 amo.Xor = 0x04
amo_funct5 amo.And = 0x0C
amo_funct5 amo.Or = 0x08
amo_funct5 amo.Min = 0x10
amo_funct5 amo.Max = 0x14
amo_funct5 amo.Minu = 0x18
amo_funct5 amo.Maxu = 0x1C

abbrev pub word_of_atomic : Atomic → ℕ
word_of_atomic i = r_type 0x2F i.rd 2 i.rs1 i.rs2 (amo_funct5 i.op * 2 ^ 2 + i.flags)
