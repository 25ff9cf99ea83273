-- The instructions of a source, by their mnemonics, and the ranges of their numbers: RISC-V Unprivileged ISA, "RV32/64G Instruction Set Listings" and "Immediate Encoding Variants".
use Rattle.std.specs.Prelude.{ℕ, ◌%◌, ℤ, pos, negsuc, int_le, unsigned_abs, Bool, false, ◌&&◌, List, [], ◌∷◌, Option, bytes_eq, ◌==◌}
use Rattle.std.specs.List.{find}
use Rattle.rv_base.specs.declared.instr.Op.{Op}
use Rattle.rv_base.specs.declared.instr.Op.TheVariants as op
use Rattle.rv_base.specs.declared.instr.Cond.TheVariants as cond
use Rattle.rv_base.specs.declared.instr.LoadKind.TheVariants as load
use Rattle.rv_base.specs.declared.instr.StoreKind.TheVariants as store
use Rattle.rv_base.specs.declared.instr.Instr.{Instr}
use Rattle.rv_base.specs.declared.instr.Instr.TheVariants.{Lui, Auipc, Jal, Jalr, Branch, Load, Store, OpImm, Op as OpReg, Fence, Ecall, Ebreak}
use Rattle.rv_text.specs.Syntax.{syntax}

-- Each instruction once, with its operands 0.
unfoldable pub patterns : List Instr
patterns =
    Lui 0 0 ∷ Auipc 0 0 ∷ Jal 0 (pos 0) ∷ Jalr 0 0 (pos 0)
    ∷ Branch cond.Eq 0 0 (pos 0) ∷ Branch cond.Ne 0 0 (pos 0) ∷ Branch cond.Lt 0 0 (pos 0)
    ∷ Branch cond.Ge 0 0 (pos 0) ∷ Branch cond.Ltu 0 0 (pos 0) ∷ Branch cond.Geu 0 0 (pos 0)
    ∷ Load load.B 0 0 (pos 0) ∷ Load load.H 0 0 (pos 0) ∷ Load load.W 0 0 (pos 0) ∷ Load load.Bu 0 0 (pos 0) ∷ Load load.Hu 0 0 (pos 0)
    ∷ Store store.B 0 0 (pos 0) ∷ Store store.H 0 0 (pos 0) ∷ Store store.W 0 0 (pos 0)
    ∷ OpImm op.Add 0 0 (pos 0) ∷ OpImm op.Slt 0 0 (pos 0) ∷ OpImm op.Sltu 0 0 (pos 0)
    ∷ OpImm op.Xor 0 0 (pos 0) ∷ OpImm op.Or 0 0 (pos 0) ∷ OpImm op.And 0 0 (pos 0)
    ∷ OpImm op.Sll 0 0 (pos 0) ∷ OpImm op.Srl 0 0 (pos 0) ∷ OpImm op.Sra 0 0 (pos 0)
    ∷ OpReg op.Add 0 0 0 ∷ OpReg op.Sub 0 0 0 ∷ OpReg op.Sll 0 0 0 ∷ OpReg op.Slt 0 0 0 ∷ OpReg op.Sltu 0 0 0
    ∷ OpReg op.Xor 0 0 0 ∷ OpReg op.Srl 0 0 0 ∷ OpReg op.Sra 0 0 0 ∷ OpReg op.Or 0 0 0 ∷ OpReg op.And 0 0 0
    ∷ OpReg op.Mul 0 0 0 ∷ OpReg op.Mulh 0 0 0 ∷ OpReg op.Mulhsu 0 0 0 ∷ OpReg op.Mulhu 0 0 0
    ∷ OpReg op.Div 0 0 0 ∷ OpReg op.Divu 0 0 0 ∷ OpReg op.Rem 0 0 0 ∷ OpReg op.Remu 0 0 0
    ∷ Fence 0 0 (pos 0) ∷ Ecall ∷ Ebreak ∷ []

-- the instruction of a mnemonic, as the disassembly writes it
unfoldable pub pattern : List ℕ → Option Instr
pattern mnemonic = find (λ i. bytes_eq (syntax i).mnemonic mnemonic) patterns

-- ---- ranges

abbrev pub is_within : ℤ → ℤ → ℤ → Bool
is_within least greatest n = int_le least n && int_le n greatest

abbrev pub is_even : ℤ → Bool
is_even n = unsigned_abs n % 2 == 0

-- the immediate of an operation: a shift amount, or 12 bits; the other operations have none
abbrev pub is_immediate : Op → ℤ → Bool
is_immediate op.Sll n = is_within (pos 0) (pos 31) n
is_immediate op.Srl n = is_within (pos 0) (pos 31) n
is_immediate op.Sra n = is_within (pos 0) (pos 31) n
is_immediate op.Add n = is_within (negsuc 2047) (pos 2047) n
is_immediate op.Slt n = is_within (negsuc 2047) (pos 2047) n
is_immediate op.Sltu n = is_within (negsuc 2047) (pos 2047) n
is_immediate op.Xor n = is_within (negsuc 2047) (pos 2047) n
is_immediate op.Or n = is_within (negsuc 2047) (pos 2047) n
is_immediate op.And n = is_within (negsuc 2047) (pos 2047) n
is_immediate _ n = false

-- the number of an instruction: upper bits, an even distance, or an immediate or offset of 12 bits
unfoldable pub in_range : Instr → ℤ → Bool
in_range (Lui rd imm) n = is_within (pos 0) (pos 1048575) n
in_range (Auipc rd imm) n = is_within (pos 0) (pos 1048575) n
in_range (Jal rd off) n = is_within (negsuc 1048575) (pos 1048574) n && is_even n
in_range (Branch c rs1 rs2 off) n = is_within (negsuc 4095) (pos 4094) n && is_even n
in_range (OpImm o rd rs1 imm) n = is_immediate o n
in_range _ n = is_within (negsuc 2047) (pos 2047) n
