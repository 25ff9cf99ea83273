-- The assembly syntax of instructions: RISC-V Unprivileged ISA, "RV32/64G Instruction Set Listings" and "RISC-V Assembly Programmer's Handbook".
use Rattle.std.specs.Prelude.{ℕ, ◌/◌, ◌^◌, false, List, [], ◌∷◌, ◌++◌, Option, Some, None, codes, decimal}
use Rattle.std.specs.Option.{option_map}
use Rattle.std.specs.Fmt.{digits, signed_decimal}
use Rattle.rv_base.specs.declared.instr.Op.{Op}
use Rattle.rv_base.specs.declared.instr.Op.TheVariants as op
use Rattle.rv_base.specs.declared.instr.Cond.{Cond}
use Rattle.rv_base.specs.declared.instr.Cond.TheVariants as cond
use Rattle.rv_base.specs.declared.instr.LoadKind.{LoadKind}
use Rattle.rv_base.specs.declared.instr.LoadKind.TheVariants as load
use Rattle.rv_base.specs.declared.instr.StoreKind.{StoreKind}
use Rattle.rv_base.specs.declared.instr.StoreKind.TheVariants as store
use Rattle.rv_base.specs.declared.instr.Instr.{Instr}
use Rattle.rv_base.specs.declared.instr.Instr.TheVariants as instr
use Rattle.rv_base.specs.declared.instr.AtomicOp.{AtomicOp}
use Rattle.rv_base.specs.declared.instr.AtomicOp.TheVariants as amo
use Rattle.rv_base.specs.declared.instr.Atomic.{Atomic}
use Rattle.rv_spec.specs.Decode.{decode, decode_atomic}
use Rattle.rv_text.specs.declared.syntax.Operands.{Operands}
use Rattle.rv_text.specs.declared.syntax.Operands.TheVariants.{Upper, Jump, Branch, Indexed, Immediate, Registers, Reserve, Atomic as OnMemory, Nothing}
use Rattle.rv_text.specs.declared.syntax.Syntax.{Syntax}

-- ---- the table

-- An instruction's mnemonic, and its operands in their shape.
pub record Form : Type 0 where
  pub mnemonic : List ℕ
  pub operands : Operands

abbrev pub form : List ℕ → Operands → Form
form m o = record { mnemonic = m; operands = o }

abbrev pub form_of : Syntax → Form
form_of s = form s.mnemonic.now s.operands

-- a word that is no instruction
abbrev pub illegal : Form
illegal = form (codes "illegal") Nothing

-- the mnemonics of branches, loads, stores and operations
abbrev pub branch_mnemonic : Cond → List ℕ
branch_mnemonic cond.Eq = codes "beq"
branch_mnemonic cond.Ne = codes "bne"
branch_mnemonic cond.Lt = codes "blt"
branch_mnemonic cond.Ge = codes "bge"
branch_mnemonic cond.Ltu = codes "bltu"
branch_mnemonic cond.Geu = codes "bgeu"

abbrev pub load_mnemonic : LoadKind → List ℕ
load_mnemonic load.B = codes "lb"
load_mnemonic load.H = codes "lh"
load_mnemonic load.W = codes "lw"
load_mnemonic load.Bu = codes "lbu"
load_mnemonic load.Hu = codes "lhu"

abbrev pub store_mnemonic : StoreKind → List ℕ
store_mnemonic store.B = codes "sb"
store_mnemonic store.H = codes "sh"
store_mnemonic store.W = codes "sw"

abbrev pub register_mnemonic : Op → List ℕ
register_mnemonic op.Add = codes "add"
register_mnemonic op.Sub = codes "sub"
register_mnemonic op.Sll = codes "sll"
register_mnemonic op.Slt = codes "slt"
register_mnemonic op.Sltu = codes "sltu"
register_mnemonic op.Xor = codes "xor"
register_mnemonic op.Srl = codes "srl"
register_mnemonic op.Sra = codes "sra"
register_mnemonic op.Or = codes "or"
register_mnemonic op.And = codes "and"
register_mnemonic op.Mul = codes "mul"
register_mnemonic op.Mulh = codes "mulh"
register_mnemonic op.Mulhsu = codes "mulhsu"
register_mnemonic op.Mulhu = codes "mulhu"
register_mnemonic op.Div = codes "div"
register_mnemonic op.Divu = codes "divu"
register_mnemonic op.Rem = codes "rem"
register_mnemonic op.Remu = codes "remu"

-- the other operations have no immediate form
abbrev pub immediate_mnemonic : Op → Option (List ℕ)
immediate_mnemonic op.Add = Some (codes "addi")
immediate_mnemonic op.Slt = Some (codes "slti")
immediate_mnemonic op.Sltu = Some (codes "sltiu")
immediate_mnemonic op.Xor = Some (codes "xori")
immediate_mnemonic op.Or = Some (codes "ori")
immediate_mnemonic op.And = Some (codes "andi")
immediate_mnemonic op.Sll = Some (codes "slli")
immediate_mnemonic op.Srl = Some (codes "srli")
immediate_mnemonic op.Sra = Some (codes "srai")
immediate_mnemonic _ = None

abbrev pub form_or_illegal : Option Form → Form
form_or_illegal (Some f) = f
form_or_illegal None = illegal

-- RV32I and M
unfoldable pub syntax : Instr → Form
syntax (instr.Lui rd imm) = form (codes "lui") (Upper rd (imm / 2 ^ 12))
syntax (instr.Auipc rd imm) = form (codes "auipc") (Upper rd (imm / 2 ^ 12))
syntax (instr.Jal rd off) = form (codes "jal") (Jump rd off)
syntax (instr.Jalr rd rs1 imm) = form (codes "jalr") (Indexed rd imm rs1)
syntax (instr.Branch c rs1 rs2 off) = form (branch_mnemonic c) (Branch rs1 rs2 off)
syntax (instr.Load kind rd rs1 imm) = form (load_mnemonic kind) (Indexed rd imm rs1)
syntax (instr.Store kind rs1 rs2 imm) = form (store_mnemonic kind) (Indexed rs2 imm rs1)
syntax (instr.OpImm o rd rs1 imm) = form_or_illegal (option_map (λ m. form m (Immediate rd rs1 imm)) (immediate_mnemonic o))
syntax (instr.Op o rd rs1 rs2) = form (register_mnemonic o) (Registers rd rs1 rs2)
syntax (instr.Fence rd rs1 imm) = form (codes "fence") Nothing
syntax instr.Ecall = form (codes "ecall") Nothing
syntax instr.Ebreak = form (codes "ebreak") Nothing

-- extension A; aq and rl aren't written
abbrev pub amo_mnemonic : AtomicOp → List ℕ
amo_mnemonic amo.Lr = codes "lr.w"
amo_mnemonic amo.Sc = codes "sc.w"
amo_mnemonic amo.Swap = codes "amoswap.w"
amo_mnemonic amo.Add = codes "amoadd.w"
amo_mnemonic amo.Xor = codes "amoxor.w"
amo_mnemonic amo.And = codes "amoand.w"
amo_mnemonic amo.Or = codes "amoor.w"
amo_mnemonic amo.Min = codes "amomin.w"
amo_mnemonic amo.Max = codes "amomax.w"
amo_mnemonic amo.Minu = codes "amominu.w"
amo_mnemonic amo.Maxu = codes "amomaxu.w"

abbrev pub amo_operands : AtomicOp → ℕ → ℕ → ℕ → Operands
amo_operands amo.Lr rd rs1 rs2 = Reserve rd rs1
amo_operands _ rd rs1 rs2 = OnMemory rd rs2 rs1

abbrev pub atomic_syntax : Atomic → Form
atomic_syntax a = form (amo_mnemonic a.op) (amo_operands a.op a.rd a.rs1 a.rs2)

-- ---- its texts

abbrev pub register : ℕ → List ℕ
register r = 120 ∷ decimal r

abbrev pub comma : List ℕ
comma = codes ", "

abbrev pub parenthesized : List ℕ → List ℕ
parenthesized text = 40 ∷ text ++ 41 ∷ []

-- hexadecimal digits in lower case, with no leading zeros
abbrev pub hex : ℕ → List ℕ
hex n = digits 16 false n

abbrev pub operands_text : Operands → List ℕ
operands_text (Upper rd upper) = register rd ++ comma ++ codes "0x" ++ hex upper
operands_text (Jump rd offset) = register rd ++ comma ++ signed_decimal offset
operands_text (Branch rs1 rs2 offset) = register rs1 ++ comma ++ register rs2 ++ comma ++ signed_decimal offset
operands_text (Indexed r offset base) = register r ++ comma ++ signed_decimal offset ++ parenthesized (register base)
operands_text (Immediate rd rs1 imm) = register rd ++ comma ++ register rs1 ++ comma ++ signed_decimal imm
operands_text (Registers rd rs1 rs2) = register rd ++ comma ++ register rs1 ++ comma ++ register rs2
operands_text (Reserve rd base) = register rd ++ comma ++ parenthesized (register base)
operands_text (OnMemory rd rs2 base) = register rd ++ comma ++ register rs2 ++ comma ++ parenthesized (register base)
operands_text Nothing = []

-- a blank and the operands, where there are any
abbrev pub behind_mnemonic : Operands → List ℕ
behind_mnemonic Nothing = []
behind_mnemonic o = 32 ∷ operands_text o

unfoldable pub form_text : Form → List ℕ
form_text f = f.mnemonic ++ behind_mnemonic f.operands

-- the text of a word
unfoldable pub disassembly : ℕ → List ℕ
disassembly w = form_text (form_or_illegal (option_map syntax (decode w)))

-- the text of a word of extension A
unfoldable pub atomic_disassembly : ℕ → Option (List ℕ)
atomic_disassembly w = option_map (λ a. form_text (atomic_syntax a)) (decode_atomic w)
