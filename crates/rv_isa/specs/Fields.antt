-- What the fields of an instruction are.
use Rattle.std.specs.Prelude.{◌^◌, ◌<◌}
use Rattle.std.specs.Int.{w32, cast_unsigned}
use Rattle.rv_base.specs.declared.instr.Instr.{Instr}
use Rattle.rv_base.specs.declared.instr.Instr.TheVariants.{Lui, Auipc, Jal, Jalr, Branch, Load, Store, OpImm, Op, Fence, Ecall, Ebreak}
use Rattle.rv_base.specs.declared.instr.Atomic.{Atomic}
use Rattle.rv_spec.specs.Decode.{AnyInstr, rv32im, rv32a}

-- the registers of an instruction are below 32, and what it computes with is a word
abbrev pub HasFields : Instr → Type 0
HasFields (Lui rd imm) = (rd < 32) × (imm < 2 ^ 32)
HasFields (Auipc rd imm) = rd < 32
HasFields (Jal rd off) = rd < 32
HasFields (Jalr rd rs1 imm) = (rd < 32) × (rs1 < 32)
HasFields (Branch c rs1 rs2 off) = (rs1 < 32) × (rs2 < 32)
HasFields (Load kind rd rs1 imm) = (rd < 32) × (rs1 < 32)
HasFields (Store kind rs1 rs2 imm) = (rs1 < 32) × (rs2 < 32)
HasFields (OpImm o rd rs1 imm) = (rd < 32) × (rs1 < 32) × (cast_unsigned w32 imm < 2 ^ 32)
HasFields (Op o rd rs1 rs2) = (rd < 32) × (rs1 < 32) × (rs2 < 32)
HasFields (Fence rd rs1 imm) = Unit {0}
HasFields Ecall = Unit {0}
HasFields Ebreak = Unit {0}

abbrev pub HasAtomicFields : Atomic → Type 0
HasAtomicFields i = (i.rd < 32) × (i.rs1 < 32) × (i.rs2 < 32)

abbrev pub HasAnyFields : AnyInstr → Type 0
HasAnyFields (rv32im i) = HasFields i
HasAnyFields (rv32a i) = HasAtomicFields i
