-- The word of an instruction decodes to it.
use Rattle.std.proofs.Common.{◌≡◌, ℕ, ◌*◌, ◌^◌, ◌<◌, ℤ, pos, negsuc, ◌≤ℤ◌, ◌<ℤ◌, Bool, true, false, cond, ◌&&◌, ◌==◌, List, length, take, drop, ◌-◌, slice_index, Option, Some, None, Result, Ok, Err, codes, bytes_eq, refl, ap, sym, ◌∙◌, subst, arith}
use Rattle.std.specs.Prelude.{unsigned_abs, nat_lt}
use Rattle.std.proofs.lemmas.Bool.{ltb-true}
use Rattle.std.proofs.lemmas.Int.{ints}
use Rattle.rv_base.specs.declared.instr.Op.{Op}
use Rattle.rv_base.specs.declared.instr.Op.TheVariants as op
use Rattle.rv_base.specs.declared.instr.Instr.{Instr}
use Rattle.rv_base.specs.declared.instr.Instr.TheVariants.{Lui, Auipc, Jal, Jalr, Branch, Load, Store, OpImm, Op as OpReg, Fence, Ecall, Ebreak}
use Rattle.rv_spec.specs.Decode.{decode}
use Rattle.rv_decode.specs.Encoding.{word_of}
use Rattle.rv_decode.specs.Ranges.{IsEncodable, IsSigned, IsOffset, IsUpper, IsImmediate}
use Rattle.rv_decode.proofs.Lemmas.{word_of-decodes}
use Rattle.rv_text.specs.Syntax.{syntax}
use Rattle.rv_text.specs.declared.syntax.Operands.{Operands}
use Rattle.rv_text.specs.declared.syntax.Operands.TheVariants.{Upper, Jump, Branch as BranchOperands, Indexed, Immediate, Registers, Reserve, Atomic, Nothing}
use Rattle.rv_asm.specs.declared.operands.Fields.{Fields}
use Rattle.rv_asm.specs.Lines.{mnemonic_text, operands_text, is_blank, trimmed, behind}
use Rattle.rv_asm.specs.Numbers.{register, register_numbered, decimal_number}
use Rattle.rv_asm.specs.Patterns.{pattern, in_range, is_within, is_even, is_immediate}
use Rattle.rv_asm.specs.Statements.{fields, fields_of, instruction, instruction_word, word_by, data_word, numeral, statement_word, HasRegisters, base, first, second, second_of_two, third_of_three}
use Rattle.rv_asm.specs.Laws.{SpellsInstruction}
use Rattle.std.specs.List.{list_all}

-- ---- ranges

signed-12 : (n : ℤ) → is_within (negsuc 2047) (pos 2047) n ≡ true → IsSigned 12 n
signed-12 n h = grind (arith, ints)

upper-range : (n : ℤ) → is_within (pos 0) (pos 1048575) n ≡ true → IsUpper (unsigned_abs n * 2 ^ 12)
upper-range n h = grind (arith, ints)

jump-range : (n : ℤ) → (is_within (negsuc 1048575) (pos 1048574) n && is_even n) ≡ true → IsOffset 21 n
jump-range n h = grind (arith, ints)

branch-range : (n : ℤ) → (is_within (negsuc 4095) (pos 4094) n && is_even n) ≡ true → IsOffset 13 n
branch-range n h = grind (arith, ints)

shift-range : (n : ℤ) → is_within (pos 0) (pos 31) n ≡ true → (pos 0 ≤ℤ n) × (n <ℤ pos 32)
shift-range n h = grind (arith, ints)

immediate-range : (o : Op) (n : ℤ) → is_immediate o n ≡ true → IsImmediate o n
immediate-range op.Sll n h = shift-range n h
immediate-range op.Srl n h = shift-range n h
immediate-range op.Sra n h = shift-range n h
immediate-range op.Add n h = signed-12 n h
immediate-range op.Slt n h = signed-12 n h
immediate-range op.Sltu n h = signed-12 n h
immediate-range op.Xor n h = signed-12 n h
immediate-range op.Or n h = signed-12 n h
immediate-range op.And n h = signed-12 n h
immediate-range _ n h = absurd (cc)

encodable : (p : Instr) (f : Fields) → HasRegisters f → in_range p f.number ≡ true → IsEncodable (instruction p f)
unfolding in_range instruction
encodable (Lui rd imm) f r h = (r.0, upper-range f.number h)
encodable (Auipc rd imm) f r h = (r.0, upper-range f.number h)
encodable (Jal rd off) f r h = (r.0, jump-range f.number h)
encodable (Jalr rd rs1 imm) f r h = (r.0, r.1, signed-12 f.number h)
encodable (Branch c rs1 rs2 off) f r h = (r.0, r.1, branch-range f.number h)
encodable (Load kind rd rs1 imm) f r h = (r.0, r.1, signed-12 f.number h)
encodable (Store kind rs1 rs2 imm) f r h = (r.1, r.0, signed-12 f.number h)
encodable (OpImm o rd rs1 imm) f r h = (r.0, r.1, immediate-range o f.number h)
encodable (OpReg o rd rs1 rs2) f r h = (r.0, r.1, r.2)
encodable (Fence rd rs1 imm) f r h = (omega arith, omega arith, signed-12 (pos 0) refl)
encodable Ecall f r h = tt
encodable Ebreak f r h = tt

-- ---- registers

-- what is a register where it is there
abbrev Register : Option ℕ → Type 0
Register (Some r) = r < 32
Register None = Unit {0}

one-range : (b : Bool) (o : Option ℕ) → Register (cond b (register_numbered o) None)
one-range false o = tt
one-range true None = tt
one-range true (Some n) = by-test (nat_lt n 32) refl
  where
    by-test : (b : Bool) → nat_lt n 32 ≡ b → Register (cond b (Some n) None)
    by-test true less = ltb-true n 32 less
    by-test false more = tt

register-range : (text : List ℕ) → Register (register text)
unfolding register
register-range text = one-range (slice_index text 0 == 120) (decimal_number (drop 1 text))

inside-range : (b : Bool) (text : List ℕ) → Register (cond b (register text) None)
inside-range true text = register-range text
inside-range false text = tt

base-range : (text : List ℕ) → Register (base text)
base-range text = let inside : List ℕ = behind 40 text in inside-range (slice_index inside (length inside - 1) == 41) (take (length inside - 1) inside)

fields-range : (a b c : Option ℕ) (n : Result ℤ ℕ) (f : Fields) → Register a → Register b → Register c → fields_of a b c n ≡ Ok f → HasRegisters f
fields-range (Some a) (Some b) (Some c) (Ok n) f ra rb rc h = let same : record { first = a; second = b; third = c; number = n } ≡ f = cc in subst HasRegisters same (ra, rb, rc)
fields-range (Some a) (Some b) (Some c) (Err kind) f ra rb rc h = absurd (cc)
fields-range None b c n f ra rb rc h = absurd (cc)
fields-range (Some a) None c n f ra rb rc h = absurd (cc)
fields-range (Some a) (Some b) None n f ra rb rc h = absurd (cc)

nothing-range : (b : Bool) (f : Fields) → cond {A = Result Fields ℕ} b (fields_of (Some 0) (Some 0) (Some 0) (Ok (pos 0))) (Err 4) ≡ Ok f → HasRegisters f
nothing-range true f h = fields-range (Some 0) (Some 0) (Some 0) (Ok (pos 0)) f (omega arith) (omega arith) (omega arith) h
nothing-range false f h = absurd (cc)

registers : (meaning : List ℕ → Option ℤ) (o : Operands) (text : List ℕ) (f : Fields) → fields meaning o text ≡ Ok f → HasRegisters f
unfolding fields
registers meaning (Upper rd upper) text f h = fields-range (register (first text)) (Some 0) (Some 0) _ f (register-range (first text)) (omega arith) (omega arith) h
registers meaning (Jump rd off) text f h = fields-range (register (first text)) (Some 0) (Some 0) _ f (register-range (first text)) (omega arith) (omega arith) h
registers meaning (BranchOperands rs1 rs2 off) text f h = fields-range (register (first text)) (register (second text)) (Some 0) _ f (register-range (first text)) (register-range (second text)) (omega arith) h
registers meaning (Indexed r off b) text f h = fields-range (register (first text)) (base (second_of_two text)) (Some 0) _ f (register-range (first text)) (base-range (second_of_two text)) (omega arith) h
registers meaning (Immediate rd rs1 imm) text f h = fields-range (register (first text)) (register (second text)) (Some 0) _ f (register-range (first text)) (register-range (second text)) (omega arith) h
registers meaning (Registers rd rs1 rs2) text f h = fields-range (register (first text)) (register (second text)) (register (third_of_three text)) _ f (register-range (first text)) (register-range (second text)) (register-range (third_of_three text)) h
registers meaning Nothing text f h = nothing-range (list_all is_blank text) f h
registers meaning (Reserve rd b) text f h = absurd (cc)
registers meaning (Atomic rd rs2 b) text f h = absurd (cc)

-- ---- words

word-decodes : (p : Instr) (f : Fields) (w : ℕ) → HasRegisters f → instruction_word p (Ok f) ≡ Ok w → decode w ≡ Some (instruction p f)
word-decodes p f w r h = by-test (in_range p f.number) refl h
  where
    by-test : (b : Bool) → in_range p f.number ≡ b → cond {A = Result ℕ ℕ} b (Ok (word_of (instruction p f))) (Err 6) ≡ Ok w → decode w ≡ Some (instruction p f)
    by-test true fits e = let same : word_of (instruction p f) ≡ w = cc in ap decode (sym same) ∙ word_of-decodes (instruction p f) (encodable p f r fits)
    by-test false fits e = absurd (cc)

pub words-decode : (meaning : List ℕ → Option ℤ) (text : List ℕ) (w : ℕ) → bytes_eq (mnemonic_text text) (codes ".word") ≡ false → statement_word meaning text ≡ Ok w → (i : Instr) × SpellsInstruction meaning text i × (decode w ≡ Some i)
unfolding statement_word
words-decode meaning text w plain told = by-pattern (pattern (mnemonic_text text)) refl (ap (λ (b : Bool). cond {A = Result ℕ ℕ} b (data_word (numeral (trimmed (operands_text text)))) (word_by meaning (operands_text text) (pattern (mnemonic_text text)))) (sym plain) ∙ told)
  where
    by-fields : (p : Instr) (r : Result Fields ℕ) → pattern (mnemonic_text text) ≡ Some p → fields meaning (syntax p).operands (operands_text text) ≡ r → instruction_word p r ≡ Ok w → (i : Instr) × SpellsInstruction meaning text i × (decode w ≡ Some i)
    by-fields p (Err kind) here spelt e = absurd (cc)
    by-fields p (Ok f) here spelt e = (instruction p f, record { of = p; operands = f; mnemonic_is = here; operands_are = spelt; is = refl }, word-decodes p f w (registers meaning (syntax p).operands (operands_text text) f spelt) e)

    by-pattern : (o : Option Instr) → pattern (mnemonic_text text) ≡ o → word_by meaning (operands_text text) o ≡ Ok w → (i : Instr) × SpellsInstruction meaning text i × (decode w ≡ Some i)
    by-pattern None here e = absurd (cc)
    by-pattern (Some p) here e = by-fields p (fields meaning (syntax p).operands (operands_text text)) here refl e
