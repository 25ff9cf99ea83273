-- Instruction words: RISC-V Unprivileged ISA, chapters RV32I, "M" and "A", and the table of the instruction set listings.
use Rattle.std.specs.Prelude.{ℕ, ◌+◌, ◌*◌, ◌%◌, ◌^◌, ℤ, pos, Bool, ◌&&◌, List, [], ◌∷◌, Option, None, find, option_map, ◌==◌, if◌then◌else◌}
use Rattle.std.specs.Option.{option_or}
use Rattle.rv_base.specs.declared.instr.Op.{Op}
use Rattle.rv_base.specs.declared.instr.Op.TheVariants as op
use Rattle.rv_base.specs.declared.instr.Cond.{Cond}
use Rattle.rv_base.specs.declared.instr.Cond.TheVariants as cond
use Rattle.rv_base.specs.declared.instr.LoadKind.{LoadKind}
use Rattle.rv_base.specs.declared.instr.LoadKind.TheVariants as load
use Rattle.rv_base.specs.declared.instr.StoreKind.{StoreKind}
use Rattle.rv_base.specs.declared.instr.StoreKind.TheVariants as store
use Rattle.rv_base.specs.declared.instr.Instr.{Instr}
use Rattle.rv_base.specs.declared.instr.Instr.TheVariants as instr
use Rattle.rv_base.specs.declared.instr.AtomicOp.{AtomicOp}
use Rattle.rv_base.specs.declared.instr.AtomicOp.TheVariants as amo
use Rattle.rv_base.specs.declared.instr.Atomic.{Atomic}
use Rattle.rv_spec.specs.Words.{bits_of, sign_extend}

-- the fields of a word (RV32I "Base Instruction Formats")
abbrev pub opcode : ℕ → ℕ
opcode w = w % 2 ^ 7

abbrev pub rd : ℕ → ℕ
rd w = bits_of 7 5 w

abbrev pub funct3 : ℕ → ℕ
funct3 w = bits_of 12 3 w

abbrev pub rs1 : ℕ → ℕ
rs1 w = bits_of 15 5 w

abbrev pub rs2 : ℕ → ℕ
rs2 w = bits_of 20 5 w

abbrev pub funct7 : ℕ → ℕ
funct7 w = bits_of 25 7 w

-- the immediates of the formats I, S, B, U and J (RV32I "Immediate Encoding Variants")
abbrev pub imm_i : ℕ → ℤ
imm_i w = sign_extend 12 (bits_of 20 12 w)

abbrev pub imm_s : ℕ → ℤ
imm_s w = sign_extend 12 (bits_of 25 7 w * 2 ^ 5 + bits_of 7 5 w)

abbrev pub imm_b : ℕ → ℤ
imm_b w = sign_extend 13 (bits_of 31 1 w * 2 ^ 12 + bits_of 7 1 w * 2 ^ 11 + bits_of 25 6 w * 2 ^ 5 + bits_of 8 4 w * 2)

abbrev pub imm_u : ℕ → ℕ
imm_u w = bits_of 12 20 w * 2 ^ 12

abbrev pub imm_j : ℕ → ℤ
imm_j w = sign_extend 21 (bits_of 31 1 w * 2 ^ 20 + bits_of 12 8 w * 2 ^ 12 + bits_of 20 1 w * 2 ^ 11 + bits_of 21 10 w * 2)

-- A row of the table of instructions: which words fit it, and what they say.
pub record Encoding (A : Type 0) : Type 0 where
  pub matches : ℕ → Bool
  pub fields : ℕ → A

-- rows by opcode; by opcode and funct3; by opcode, funct3 and funct7; by the whole word
abbrev pub by_opcode : {A : Type 0} → ℕ → (ℕ → A) → Encoding A
by_opcode o r = record { matches = λ w. opcode w == o; fields = r }

abbrev pub by_funct3 : {A : Type 0} → ℕ → ℕ → (ℕ → A) → Encoding A
by_funct3 o f r = record { matches = λ w. opcode w == o && funct3 w == f; fields = r }

abbrev pub by_funct7 : {A : Type 0} → ℕ → ℕ → ℕ → (ℕ → A) → Encoding A
by_funct7 o f g r = record { matches = λ w. opcode w == o && funct3 w == f && funct7 w == g; fields = r }

abbrev pub by_word : {A : Type 0} → ℕ → A → Encoding A
by_word v a = record { matches = λ w. w == v; fields = λ _. a }

-- what a word says under each format
abbrev pub branch_instr : Cond → ℕ → Instr
branch_instr c w = instr.Branch c (rs1 w) (rs2 w) (imm_b w)

abbrev pub load_instr : LoadKind → ℕ → Instr
load_instr k w = instr.Load k (rd w) (rs1 w) (imm_i w)

abbrev pub store_instr : StoreKind → ℕ → Instr
store_instr k w = instr.Store k (rs1 w) (rs2 w) (imm_s w)

abbrev pub imm_instr : Op → ℕ → Instr
imm_instr o w = instr.OpImm o (rd w) (rs1 w) (imm_i w)

abbrev pub shift_instr : Op → ℕ → Instr
shift_instr o w = instr.OpImm o (rd w) (rs1 w) (pos (rs2 w))

abbrev pub reg_instr : Op → ℕ → Instr
reg_instr o w = instr.Op o (rd w) (rs1 w) (rs2 w)

-- RV32I and M, as the instruction set listings have them. No word fits two rows, and that every other word is illegal is this project's own.
unfoldable pub rv32im_table : List (Encoding Instr)
rv32im_table =
    by_opcode 0x37 (λ w. instr.Lui (rd w) (imm_u w))
    ∷ by_opcode 0x17 (λ w. instr.Auipc (rd w) (imm_u w))
    ∷ by_opcode 0x6F (λ w. instr.Jal (rd w) (imm_j w))
    ∷ by_funct3 0x67 0 (λ w. instr.Jalr (rd w) (rs1 w) (imm_i w))
    ∷ by_funct3 0x63 0 (branch_instr cond.Eq)
    ∷ by_funct3 0x63 1 (branch_instr cond.Ne)
    ∷ by_funct3 0x63 4 (branch_instr cond.Lt)
    ∷ by_funct3 0x63 5 (branch_instr cond.Ge)
    ∷ by_funct3 0x63 6 (branch_instr cond.Ltu)
    ∷ by_funct3 0x63 7 (branch_instr cond.Geu)
    ∷ by_funct3 0x03 0 (load_instr load.B)
    ∷ by_funct3 0x03 1 (load_instr load.H)
    ∷ by_funct3 0x03 2 (load_instr load.W)
    ∷ by_funct3 0x03 4 (load_instr load.Bu)
    ∷ by_funct3 0x03 5 (load_instr load.Hu)
    ∷ by_funct3 0x23 0 (store_instr store.B)
    ∷ by_funct3 0x23 1 (store_instr store.H)
    ∷ by_funct3 0x23 2 (store_instr store.W)
    ∷ by_funct3 0x13 0 (imm_instr op.Add)
    ∷ by_funct3 0x13 2 (imm_instr op.Slt)
    ∷ by_funct3 0x13 3 (imm_instr op.Sltu)
    ∷ by_funct3 0x13 4 (imm_instr op.Xor)
    ∷ by_funct3 0x13 6 (imm_instr op.Or)
    ∷ by_funct3 0x13 7 (imm_instr op.And)
    ∷ by_funct7 0x13 1 0x00 (shift_instr op.Sll)
    ∷ by_funct7 0x13 5 0x00 (shift_instr op.Srl)
    ∷ by_funct7 0x13 5 0x20 (shift_instr op.Sra)
    ∷ by_funct7 0x33 0 0x00 (reg_instr op.Add)
    ∷ by_funct7 0x33 1 0x00 (reg_instr op.Sll)
    ∷ by_funct7 0x33 2 0x00 (reg_instr op.Slt)
    ∷ by_funct7 0x33 3 0x00 (reg_instr op.Sltu)
    ∷ by_funct7 0x33 4 0x00 (reg_instr op.Xor)
    ∷ by_funct7 0x33 5 0x00 (reg_instr op.Srl)
    ∷ by_funct7 0x33 6 0x00 (reg_instr op.Or)
    ∷ by_funct7 0x33 7 0x00 (reg_instr op.And)
    ∷ by_funct7 0x33 0 0x20 (reg_instr op.Sub)
    ∷ by_funct7 0x33 5 0x20 (reg_instr op.Sra)
    ∷ by_funct7 0x33 0 0x01 (reg_instr op.Mul)
    ∷ by_funct7 0x33 1 0x01 (reg_instr op.Mulh)
    ∷ by_funct7 0x33 2 0x01 (reg_instr op.Mulhsu)
    ∷ by_funct7 0x33 3 0x01 (reg_instr op.Mulhu)
    ∷ by_funct7 0x33 4 0x01 (reg_instr op.Div)
    ∷ by_funct7 0x33 5 0x01 (reg_instr op.Divu)
    ∷ by_funct7 0x33 6 0x01 (reg_instr op.Rem)
    ∷ by_funct7 0x33 7 0x01 (reg_instr op.Remu)
    ∷ by_funct3 0x0F 0 (λ w. instr.Fence (rd w) (rs1 w) (imm_i w))
    ∷ by_word 0x00000073 instr.Ecall
    ∷ by_word 0x00100073 instr.Ebreak
    ∷ []

-- an atomic instruction is chosen by its upper five bits; the two below them are aq and rl
abbrev pub atomic_instr : AtomicOp → ℕ → Atomic
atomic_instr o w = record { op = o; rd = rd w; rs1 = rs1 w; rs2 = rs2 w; flags = bits_of 25 2 w }

abbrev pub amo_encoding : ℕ → AtomicOp → Encoding Atomic
amo_encoding f o = record { matches = λ w. opcode w == 0x2F && funct3 w == 2 && bits_of 27 5 w == f; fields = atomic_instr o }

abbrev pub lr_encoding : Encoding Atomic
lr_encoding = record { matches = λ w. opcode w == 0x2F && funct3 w == 2 && bits_of 27 5 w == 0x02 && rs2 w == 0; fields = atomic_instr amo.Lr }

-- extension A ("Load-Reserved/Store-Conditional Instructions" and "Atomic Memory Operations")
unfoldable pub rv32a_table : List (Encoding Atomic)
rv32a_table =
    lr_encoding
    ∷ amo_encoding 0x03 amo.Sc
    ∷ amo_encoding 0x01 amo.Swap
    ∷ amo_encoding 0x00 amo.Add
    ∷ amo_encoding 0x04 amo.Xor
    ∷ amo_encoding 0x0C amo.And
    ∷ amo_encoding 0x08 amo.Or
    ∷ amo_encoding 0x10 amo.Min
    ∷ amo_encoding 0x14 amo.Max
    ∷ amo_encoding 0x18 amo.Minu
    ∷ amo_encoding 0x1C amo.Maxu
    ∷ []

-- what the row that the word fits makes of it
abbrev pub by_table : {A : Type 0} → List (Encoding A) → ℕ → Option A
by_table rows w = option_map (λ r. r.fields w) (find (λ r. r.matches w) rows)

unfoldable pub decode : ℕ → Option Instr
decode w = by_table rv32im_table w

unfoldable pub decode_atomic : ℕ → Option Atomic
decode_atomic w = by_table rv32a_table w

-- an instruction of either table
pub data AnyInstr : Type 0 where
  rv32im : Instr → AnyInstr
  rv32a : Atomic → AnyInstr

-- the instruction of a word in a version, if it is legal there
unfoldable pub decode_any : ℕ → ℕ → Option AnyInstr
decode_any version w =
    option_or (option_map rv32im (decode w)) (if version == 2 then option_map rv32a (decode_atomic w) else None)
