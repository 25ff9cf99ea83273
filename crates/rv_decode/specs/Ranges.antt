-- Which instructions have an encoding: the ranges of their fields, by the formats of the RISC-V Unprivileged ISA, chapter RV32I.
use Rattle.std.specs.Prelude.{ℕ, ◌-◌, ◌%◌, ◌^◌, ◌<◌, ◌≡◌, ℤ, pos, neg_ℤ, ◌≤ℤ◌, ◌<ℤ◌, int_rem}
use Rattle.rv_base.specs.declared.instr.Op.{Op}
use Rattle.rv_base.specs.declared.instr.Op.TheVariants as op
use Rattle.rv_base.specs.declared.instr.Instr.{Instr}
use Rattle.rv_base.specs.declared.instr.Instr.TheVariants.{Lui, Auipc, Jal, Jalr, Branch, Load, Store, OpImm, Op as OpReg, Fence, Ecall, Ebreak}
use Rattle.rv_base.specs.declared.instr.AtomicOp.TheVariants as amo
use Rattle.rv_base.specs.declared.instr.Atomic.{Atomic}

abbrev pub IsRegister : ℕ → Type 0
IsRegister r = r < 32

-- a signed number of k bits
abbrev pub IsSigned : ℕ → ℤ → Type 0
IsSigned k z = (neg_ℤ (pos (2 ^ (k - 1))) ≤ℤ z) × (z <ℤ pos (2 ^ (k - 1)))

-- the distance of a jump or branch: a multiple of 2 in k bits
abbrev pub IsOffset : ℕ → ℤ → Type 0
IsOffset k z = IsSigned k z × (int_rem z (pos 2) ≡ pos 0)

-- the immediate of LUI and AUIPC, whose low 12 bits are 0
abbrev pub IsUpper : ℕ → Type 0
IsUpper n = (n < 2 ^ 32) × (n % 2 ^ 12 ≡ 0)

-- the immediate of an operation of OP-IMM: a shift amount, or 12 bits; the other operations have none
abbrev pub IsImmediate : Op → ℤ → Type 0
IsImmediate op.Sll z = (pos 0 ≤ℤ z) × (z <ℤ pos 32)
IsImmediate op.Srl z = (pos 0 ≤ℤ z) × (z <ℤ pos 32)
IsImmediate op.Sra z = (pos 0 ≤ℤ z) × (z <ℤ pos 32)
IsImmediate op.Add z = IsSigned 12 z
IsImmediate op.Slt z = IsSigned 12 z
IsImmediate op.Sltu z = IsSigned 12 z
IsImmediate op.Xor z = IsSigned 12 z
IsImmediate op.Or z = IsSigned 12 z
IsImmediate op.And z = IsSigned 12 z
IsImmediate _ z = ⊥

-- an instruction that a word spells
abbrev pub IsEncodable : Instr → Type 0
IsEncodable (Lui rd imm) = IsRegister rd × IsUpper imm
IsEncodable (Auipc rd imm) = IsRegister rd × IsUpper imm
IsEncodable (Jal rd off) = IsRegister rd × IsOffset 21 off
IsEncodable (Jalr rd rs1 imm) = IsRegister rd × IsRegister rs1 × IsSigned 12 imm
IsEncodable (Branch cond rs1 rs2 off) = IsRegister rs1 × IsRegister rs2 × IsOffset 13 off
IsEncodable (Load kind rd rs1 imm) = IsRegister rd × IsRegister rs1 × IsSigned 12 imm
IsEncodable (Store kind rs1 rs2 imm) = IsRegister rs1 × IsRegister rs2 × IsSigned 12 imm
IsEncodable (OpImm op rd rs1 imm) = IsRegister rd × IsRegister rs1 × IsImmediate op imm
IsEncodable (OpReg op rd rs1 rs2) = IsRegister rd × IsRegister rs1 × IsRegister rs2
IsEncodable (Fence rd rs1 imm) = IsRegister rd × IsRegister rs1 × IsSigned 12 imm
IsEncodable Ecall = Unit {0}
IsEncodable Ebreak = Unit {0}

-- an atomic instruction that a word spells; LR has no rs2
abbrev pub IsEncodableAtomic : Atomic → Type 0
IsEncodableAtomic i =
    IsRegister i.rd × IsRegister i.rs1 × IsRegister i.rs2 × (i.flags < 4) × (i.op ≡ amo.Lr → i.rs2 ≡ 0)
