-- The word of each format decodes to the instruction that it was made of.
use Rattle.std.proofs.Common.{◌≡◌, ℕ, ◌+◌, ◌*◌, ◌%◌, ◌^◌, ◌<◌, ℤ, pos, negsuc, ◌+ℤ◌, Some, refl, ap, ◌∙◌, arith}
use Rattle.std.specs.Prelude.{◌≤ℤ◌, ◌<ℤ◌}
use Rattle.std.specs.Int.{w32, cast_unsigned}
use Rattle.std.proofs.lemmas.Int.{ints}
use Rattle.rv_base.specs.declared.instr.Op.{Op}
use Rattle.rv_base.specs.declared.instr.Op.TheVariants as op
use Rattle.rv_base.specs.declared.instr.Cond.{Cond}
use Rattle.rv_base.specs.declared.instr.Cond.TheVariants as cond
use Rattle.rv_base.specs.declared.instr.LoadKind.{LoadKind}
use Rattle.rv_base.specs.declared.instr.LoadKind.TheVariants as load
use Rattle.rv_base.specs.declared.instr.StoreKind.{StoreKind}
use Rattle.rv_base.specs.declared.instr.StoreKind.TheVariants as store
use Rattle.rv_base.specs.declared.instr.Instr.{Instr}
use Rattle.rv_base.specs.declared.instr.Instr.TheVariants as instr
use Rattle.rv_spec.specs.Words.{bits_of, sign_extend}
use Rattle.rv_spec.specs.Decode.{decode, rv32im_table, opcode, rd, funct3, rs1, rs2, funct7, imm_i, imm_s, imm_b, branch_instr, load_instr, store_instr, imm_instr, shift_instr, reg_instr}
use Rattle.rv_decode.specs.Encoding.{r_type, i_type, s_type, b_type, branch_funct3, load_funct3, store_funct3, op_funct3, op_funct7, immediate_mark, word_of}
use Rattle.rv_decode.specs.Ranges.{IsSigned, IsOffset, IsImmediate, IsEncodable}
use Rattle.rv_decode.proofs.WordFields.{r_type-fields, i-bits, s-bits, b-bits, j-fields, u-fields, b_number, cut-extend, cast-even, plus-zero}

-- ---- the table at an opcode

branch-at : (c : Cond) (w : ℕ) → opcode w ≡ 0x63 → funct3 w ≡ branch_funct3 c → decode w ≡ Some (branch_instr c w)
unfolding decode rv32im_table
branch-at cond.Eq w o f = rw (o, f) refl
branch-at c w o f = rw (o, f) refl

load-at : (k : LoadKind) (w : ℕ) → opcode w ≡ 0x03 → funct3 w ≡ load_funct3 k → decode w ≡ Some (load_instr k w)
unfolding decode rv32im_table
load-at load.B w o f = rw (o, f) refl
load-at k w o f = rw (o, f) refl

store-at : (k : StoreKind) (w : ℕ) → opcode w ≡ 0x23 → funct3 w ≡ store_funct3 k → decode w ≡ Some (store_instr k w)
unfolding decode rv32im_table
store-at store.B w o f = rw (o, f) refl
store-at k w o f = rw (o, f) refl

reg-at : (p : Op) (w : ℕ) → opcode w ≡ 0x33 → funct3 w ≡ op_funct3 p → funct7 w ≡ op_funct7 p → decode w ≡ Some (reg_instr p w)
unfolding decode rv32im_table
reg-at op.Add w o f g = rw (o, f, g) refl
reg-at p w o f g = rw (o, f, g) refl

branch_funct3-small : (c : Cond) → branch_funct3 c < 2 ^ 3
branch_funct3-small cond.Eq = omega arith
branch_funct3-small c = omega arith

load_funct3-small : (k : LoadKind) → load_funct3 k < 2 ^ 3
load_funct3-small load.B = omega arith
load_funct3-small k = omega arith

store_funct3-small : (k : StoreKind) → store_funct3 k < 2 ^ 3
store_funct3-small store.B = omega arith
store_funct3-small k = omega arith

op_funct3-small : (p : Op) → op_funct3 p < 2 ^ 3
op_funct3-small op.Add = omega arith
op_funct3-small p = omega arith

op_funct7-small : (p : Op) → op_funct7 p < 2 ^ 7
op_funct7-small op.Add = omega arith
op_funct7-small p = omega arith

-- ---- the fields of each format

record ImmFields (w o d f a : ℕ) (imm : ℤ) : Type 0 where
  opcode_is : opcode w ≡ o
  rd_is : rd w ≡ d
  funct3_is : funct3 w ≡ f
  rs1_is : rs1 w ≡ a
  imm_is : imm_i w ≡ imm

i-fields : (o d f a : ℕ) (imm : ℤ) → o < 2 ^ 7 → d < 32 → f < 2 ^ 3 → a < 32 → IsSigned 12 imm → ImmFields (i_type o d f a imm) o d f a imm
i-fields o d f a imm ho hd hf ha s =
    let n = cast_unsigned w32 imm in
    let h = r_type-fields o d f a (n % 2 ^ 5) (bits_of 5 7 n) ho hd hf ha (omega arith) (omega arith) in
    let cut : bits_of 20 12 (i_type o d f a imm) ≡ n % 2 ^ 12 = i-bits (i_type o d f a imm) n h.rs2_is h.funct7_is in
    record {
      opcode_is = h.opcode_is;
      rd_is = h.rd_is;
      funct3_is = h.funct3_is;
      rs1_is = h.rs1_is;
      imm_is = ap (λ (x : ℕ). sign_extend 12 x) cut ∙ cut-extend 12 imm (omega arith) (omega arith) s;
    }

record StoreFields (w o f a b : ℕ) (imm : ℤ) : Type 0 where
  opcode_is : opcode w ≡ o
  funct3_is : funct3 w ≡ f
  rs1_is : rs1 w ≡ a
  rs2_is : rs2 w ≡ b
  imm_is : imm_s w ≡ imm

s-fields : (o f a b : ℕ) (imm : ℤ) → o < 2 ^ 7 → f < 2 ^ 3 → a < 32 → b < 32 → IsSigned 12 imm → StoreFields (s_type o f a b imm) o f a b imm
s-fields o f a b imm ho hf ha hb s =
    let n = cast_unsigned w32 imm in
    let h = r_type-fields o (n % 2 ^ 5) f a b (bits_of 5 7 n) ho (omega arith) hf ha hb (omega arith) in
    let w = s_type o f a b imm in
    let cut : bits_of 25 7 w * 2 ^ 5 + bits_of 7 5 w ≡ n % 2 ^ 12 = s-bits w n h.rd_is h.funct7_is in
    record {
      opcode_is = h.opcode_is;
      funct3_is = h.funct3_is;
      rs1_is = h.rs1_is;
      rs2_is = h.rs2_is;
      imm_is = ap (λ (x : ℕ). sign_extend 12 x) cut ∙ cut-extend 12 imm (omega arith) (omega arith) s;
    }

record BranchFields (w o f a b : ℕ) (off : ℤ) : Type 0 where
  opcode_is : opcode w ≡ o
  funct3_is : funct3 w ≡ f
  rs1_is : rs1 w ≡ a
  rs2_is : rs2 w ≡ b
  off_is : imm_b w ≡ off

b-fields : (o f a b : ℕ) (off : ℤ) → o < 2 ^ 7 → f < 2 ^ 3 → a < 32 → b < 32 → IsOffset 13 off → BranchFields (b_type o f a b off) o f a b off
b-fields o f a b off ho hf ha hb s =
    let n = cast_unsigned w32 off in
    let h = r_type-fields o (bits_of 1 4 n * 2 + bits_of 11 1 n) f a b (bits_of 12 1 n * 2 ^ 6 + bits_of 5 6 n) ho (omega arith) hf ha hb (omega arith) in
    let w = b_type o f a b off in
    let cut : b_number w ≡ n % 2 ^ 13 = b-bits w n h.rd_is h.funct7_is (cast-even off s.1) in
    record {
      opcode_is = h.opcode_is;
      funct3_is = h.funct3_is;
      rs1_is = h.rs1_is;
      rs2_is = h.rs2_is;
      off_is = ap (λ (x : ℕ). sign_extend 13 x) cut ∙ cut-extend 13 off (omega arith) (omega arith) s.0;
    }

-- ---- OP-IMM

plain-decodes : (p : Op) (d a : ℕ) (z : ℤ) → immediate_mark p ≡ 0 → ((w : ℕ) → opcode w ≡ 0x13 → funct3 w ≡ op_funct3 p → decode w ≡ Some (imm_instr p w))
    → d < 32 → a < 32 → IsSigned 12 z → decode (i_type 0x13 d (op_funct3 p) a (z +ℤ pos (immediate_mark p))) ≡ Some (instr.OpImm p d a z)
plain-decodes p d a z unmarked at hd ha s =
    let h = i-fields 0x13 d (op_funct3 p) a z (omega arith) hd (op_funct3-small p) ha s in
    rw unmarked (rw (plus-zero z) (at (i_type 0x13 d (op_funct3 p) a z) h.opcode_is h.funct3_is ∙ rw (h.rd_is, h.rs1_is, h.imm_is) refl))

shift-decodes : (p : Op) (d a : ℕ) (z : ℤ) → immediate_mark p ≡ op_funct7 p * 2 ^ 5 → ((w : ℕ) → opcode w ≡ 0x13 → funct3 w ≡ op_funct3 p → funct7 w ≡ op_funct7 p → decode w ≡ Some (shift_instr p w))
    → d < 32 → a < 32 → (pos 0 ≤ℤ z) × (z <ℤ pos 32) → decode (i_type 0x13 d (op_funct3 p) a (z +ℤ pos (immediate_mark p))) ≡ Some (instr.OpImm p d a z)
shift-decodes p d a (pos m) marked at hd ha s =
    let amount : m < 32 = omega (arith, ints) in
    let g : op_funct7 p < 2 ^ 7 = op_funct7-small p in
    let low : (m + immediate_mark p) % 2 ^ 5 ≡ m = omega (arith, marked) in
    let high : bits_of 5 7 (m + immediate_mark p) ≡ op_funct7 p = omega (arith, marked) in
    let h = r_type-fields 0x13 d (op_funct3 p) a m (op_funct7 p) (omega arith) hd (op_funct3-small p) ha amount g in
    rw (low, high) (at (r_type 0x13 d (op_funct3 p) a m (op_funct7 p)) h.opcode_is h.funct3_is h.funct7_is ∙ rw (h.rd_is, h.rs1_is, h.rs2_is) refl)
shift-decodes p d a (negsuc m) marked at hd ha s = absurd (omega (arith, ints))

imm-decodes : (p : Op) (d a : ℕ) (z : ℤ) → d < 32 → a < 32 → IsImmediate p z → decode (i_type 0x13 d (op_funct3 p) a (z +ℤ pos (immediate_mark p))) ≡ Some (instr.OpImm p d a z)
unfolding decode rv32im_table
imm-decodes op.Add d a z hd ha s = plain-decodes op.Add d a z refl (λ w o f. rw (o, f) refl) hd ha s
imm-decodes op.Slt d a z hd ha s = plain-decodes op.Slt d a z refl (λ w o f. rw (o, f) refl) hd ha s
imm-decodes op.Sltu d a z hd ha s = plain-decodes op.Sltu d a z refl (λ w o f. rw (o, f) refl) hd ha s
imm-decodes op.Xor d a z hd ha s = plain-decodes op.Xor d a z refl (λ w o f. rw (o, f) refl) hd ha s
imm-decodes op.Or d a z hd ha s = plain-decodes op.Or d a z refl (λ w o f. rw (o, f) refl) hd ha s
imm-decodes op.And d a z hd ha s = plain-decodes op.And d a z refl (λ w o f. rw (o, f) refl) hd ha s
imm-decodes op.Sll d a z hd ha s = shift-decodes op.Sll d a z refl (λ w o f g. rw (o, f, g) refl) hd ha s
imm-decodes op.Srl d a z hd ha s = shift-decodes op.Srl d a z refl (λ w o f g. rw (o, f, g) refl) hd ha s
imm-decodes op.Sra d a z hd ha s = shift-decodes op.Sra d a z refl (λ w o f g. rw (o, f, g) refl) hd ha s
imm-decodes p d a z hd ha s = absurd s

-- ---- every instruction

pub word_of-decodes : (i : Instr) → IsEncodable i → decode (word_of i) ≡ Some i
unfolding word_of decode rv32im_table
word_of-decodes (instr.Lui d n) r =
    let h = u-fields 0x37 d n (omega arith) r.0 r.1.0 r.1.1 in
    rw h.opcode_is (rw (h.rd_is, h.upper_is) refl)
word_of-decodes (instr.Auipc d n) r =
    let h = u-fields 0x17 d n (omega arith) r.0 r.1.0 r.1.1 in
    rw h.opcode_is (rw (h.rd_is, h.upper_is) refl)
word_of-decodes (instr.Jal d off) r =
    let n = cast_unsigned w32 off in
    let h = j-fields 0x6F d n (omega arith) r.0 (cast-even off r.1.1) in
    let off_is = ap (λ (x : ℕ). sign_extend 21 x) h.number_is ∙ cut-extend 21 off (omega arith) (omega arith) r.1.0 in
    rw h.opcode_is (rw (h.rd_is, off_is) refl)
word_of-decodes (instr.Jalr d a imm) r =
    let h = i-fields 0x67 d 0 a imm (omega arith) r.0 (omega arith) r.1 r.2 in
    rw (h.opcode_is, h.funct3_is) (rw (h.rd_is, h.rs1_is, h.imm_is) refl)
word_of-decodes (instr.Branch c a b off) r =
    let h = b-fields 0x63 (branch_funct3 c) a b off (omega arith) (branch_funct3-small c) r.0 r.1 r.2 in
    branch-at c _ h.opcode_is h.funct3_is ∙ rw (h.rs1_is, h.rs2_is, h.off_is) refl
word_of-decodes (instr.Load k d a imm) r =
    let h = i-fields 0x03 d (load_funct3 k) a imm (omega arith) r.0 (load_funct3-small k) r.1 r.2 in
    load-at k _ h.opcode_is h.funct3_is ∙ rw (h.rd_is, h.rs1_is, h.imm_is) refl
word_of-decodes (instr.Store k a b imm) r =
    let h = s-fields 0x23 (store_funct3 k) a b imm (omega arith) (store_funct3-small k) r.0 r.1 r.2 in
    store-at k _ h.opcode_is h.funct3_is ∙ rw (h.rs1_is, h.rs2_is, h.imm_is) refl
word_of-decodes (instr.OpImm p d a z) r = imm-decodes p d a z r.0 r.1 r.2
word_of-decodes (instr.Op p d a b) r =
    let h = r_type-fields 0x33 d (op_funct3 p) a b (op_funct7 p) (omega arith) r.0 (op_funct3-small p) r.1 r.2 (op_funct7-small p) in
    reg-at p _ h.opcode_is h.funct3_is h.funct7_is ∙ rw (h.rd_is, h.rs1_is, h.rs2_is) refl
word_of-decodes (instr.Fence d a imm) r =
    let h = i-fields 0x0F d 0 a imm (omega arith) r.0 (omega arith) r.1 r.2 in
    rw (h.opcode_is, h.funct3_is) (rw (h.rd_is, h.rs1_is, h.imm_is) refl)
word_of-decodes instr.Ecall r = refl
word_of-decodes instr.Ebreak r = refl
