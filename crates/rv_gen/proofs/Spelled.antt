-- The words of a generated program's instructions spell it: each instruction in its ranges has a word of 32 bits that decodes to it.
use Rattle.std.proofs.Common.{ℕ, ◌+◌, ◌*◌, ◌%◌, ◌^◌, ◌<◌, ℤ, pos, ◌+ℤ◌, List, [], ◌∷◌, map, refl, arith}
use Rattle.std.specs.Int.{IsInRange, w32, cast_unsigned}
use Rattle.rv_base.specs.declared.instr.Op.{Op}
use Rattle.rv_base.specs.declared.instr.Op.TheVariants as op
use Rattle.rv_base.specs.declared.instr.Cond.{Cond}
use Rattle.rv_base.specs.declared.instr.Cond.TheVariants as cond
use Rattle.rv_base.specs.declared.instr.LoadKind.{LoadKind}
use Rattle.rv_base.specs.declared.instr.LoadKind.TheVariants as load
use Rattle.rv_base.specs.declared.instr.StoreKind.{StoreKind}
use Rattle.rv_base.specs.declared.instr.StoreKind.TheVariants as store
use Rattle.rv_base.specs.declared.instr.Instr.{Instr}
use Rattle.rv_base.specs.declared.instr.Instr.TheVariants as instr
use Rattle.rv_spec.specs.Words.{bits_of}
use Rattle.rv_decode.specs.Encoding.{r_type, i_type, branch_funct3, load_funct3, store_funct3, op_funct3, op_funct7, immediate_mark, word_of}
use Rattle.rv_decode.specs.Ranges.{IsEncodable}
use Rattle.rv_decode.proofs.Lemmas.{word_of-decodes}
use Rattle.rv_gen.specs.Programs.{program, SpellCode}
use Rattle.rv_gen.proofs.Encodable.{AreEncodable, program-encodable}

-- ---- the word of an instruction

branch_funct3-small : (c : Cond) → branch_funct3 c < 2 ^ 3
branch_funct3-small cond.Eq = omega arith
branch_funct3-small c = omega arith

load_funct3-small : (k : LoadKind) → load_funct3 k < 2 ^ 3
load_funct3-small load.B = omega arith
load_funct3-small k = omega arith

store_funct3-small : (k : StoreKind) → store_funct3 k < 2 ^ 3
store_funct3-small store.B = omega arith
store_funct3-small k = omega arith

op_funct3-small : (p : Op) → op_funct3 p < 2 ^ 3
op_funct3-small op.Add = omega arith
op_funct3-small p = omega arith

op_funct7-small : (p : Op) → op_funct7 p < 2 ^ 7
op_funct7-small op.Add = omega arith
op_funct7-small p = omega arith

r_type-below : (o d f a b g : ℕ) → o < 2 ^ 7 → d < 2 ^ 5 → f < 2 ^ 3 → a < 2 ^ 5 → b < 2 ^ 5 → g < 2 ^ 7 → r_type o d f a b g < 2 ^ 32
r_type-below o d f a b g ho hd hf ha hb hg = omega arith

i_type-below : (o d f a : ℕ) (z : ℤ) → o < 2 ^ 7 → d < 32 → f < 2 ^ 3 → a < 32 → i_type o d f a z < 2 ^ 32
i_type-below o d f a z ho hd hf ha = let n = cast_unsigned w32 z in r_type-below o d f a (n % 2 ^ 5) (bits_of 5 7 n) ho hd hf ha (omega arith) (omega arith)

-- the word of an instruction has 32 bits
word_of-below : (i : Instr) → IsEncodable i → word_of i < 2 ^ 32
unfolding word_of
word_of-below (instr.Lui d n) r = omega (arith, r.0, r.1.0, r.1.1)
word_of-below (instr.Auipc d n) r = omega (arith, r.0, r.1.0, r.1.1)
word_of-below (instr.Jal d off) r = omega (arith, r.0)
word_of-below (instr.Jalr d a imm) r = i_type-below 0x67 d 0 a imm (omega arith) r.0 (omega arith) r.1
word_of-below (instr.Branch c a b off) r =
    let n = cast_unsigned w32 off in
    r_type-below 0x63 (bits_of 1 4 n * 2 + bits_of 11 1 n) (branch_funct3 c) a b (bits_of 12 1 n * 2 ^ 6 + bits_of 5 6 n) (omega arith) (omega arith) (branch_funct3-small c) r.0 r.1 (omega arith)
word_of-below (instr.Load k d a imm) r = i_type-below 0x03 d (load_funct3 k) a imm (omega arith) r.0 (load_funct3-small k) r.1
word_of-below (instr.Store k a b imm) r =
    let n = cast_unsigned w32 imm in
    r_type-below 0x23 (n % 2 ^ 5) (store_funct3 k) a b (bits_of 5 7 n) (omega arith) (omega arith) (store_funct3-small k) r.0 r.1 (omega arith)
word_of-below (instr.OpImm p d a imm) r = i_type-below 0x13 d (op_funct3 p) a (imm +ℤ pos (immediate_mark p)) (omega arith) r.0 (op_funct3-small p) r.1
word_of-below (instr.Op p d a b) r = r_type-below 0x33 d (op_funct3 p) a b (op_funct7 p) (omega arith) r.0 (op_funct3-small p) r.1 r.2 (op_funct7-small p)
word_of-below (instr.Fence d a imm) r = i_type-below 0x0F d 0 a imm (omega arith) r.0 (omega arith) r.1
word_of-below instr.Ecall r = omega arith
word_of-below instr.Ebreak r = omega arith

-- ---- the words of a program

words-spell : (is : List Instr) → AreEncodable is → SpellCode (map word_of is) is
words-spell [] all = record { fit = tt; spell = refl }
words-spell (i ∷ is) all =
    let rest = words-spell is all.1 in
    record { fit = (word_of-below i all.0, rest.fit); spell = λ t. word_of-decodes i all.0 t ∷ rest.spell t }

-- the encodings of a program's instructions spell it
pub program-spelled : (number size : ℕ) → IsInRange 42 84000 size → SpellCode (map word_of (program number size).0) (program number size).0
program-spelled number size range = words-spell (program number size).0 (program-encodable number size range)
