-- The disassembly of a word is assembled to that word.
use Rattle.std.proofs.Common.{◌≡◌, ℕ, ◌+◌, ◌/◌, ◌^◌, ◌<◌, ℤ, pos, Bool, true, false, cond, not, ◌==◌, List, [], ◌∷◌, ◌++◌, length, take, drop, position, Option, Some, None, Ok, decimal, codes, bytes_eq, refl, ap, sym, ◌∙◌, subst, arith, ne_eqb, append_assoc, length-append, ◌⊎◌, inl, inr}
use Rattle.std.specs.Fmt.{signed_decimal}
use Rattle.std.specs.Option.{option_map}
use Rattle.std.specs.List.{list_all, before_first, after_first, position_or_len, prefix_len}
use Rattle.std.specs.Str.Lines.{lines}
use Rattle.std.proofs.lemmas.Bool.{le-ltb, and_parts}
use Rattle.std.proofs.lemmas.Bool.Decides.{nat_tests}
use Rattle.std.proofs.lemmas.List.{take_all, drop_all, append-nil}
use Rattle.rv_base.specs.declared.instr.Op.{Op}
use Rattle.rv_base.specs.declared.instr.Op.TheVariants as op
use Rattle.rv_base.specs.declared.instr.Cond.{Cond}
use Rattle.rv_base.specs.declared.instr.Cond.TheVariants as cond
use Rattle.rv_base.specs.declared.instr.LoadKind.{LoadKind}
use Rattle.rv_base.specs.declared.instr.LoadKind.TheVariants as load
use Rattle.rv_base.specs.declared.instr.StoreKind.{StoreKind}
use Rattle.rv_base.specs.declared.instr.StoreKind.TheVariants as store
use Rattle.rv_base.specs.declared.instr.Instr.{Instr}
use Rattle.rv_base.specs.declared.instr.Instr.TheVariants.{Lui, Auipc, Jal, Jalr, Branch, Load, Store, OpImm, Op as OpReg, Fence, Ecall, Ebreak}
use Rattle.rv_spec.specs.Decode.{decode}
use Rattle.rv_decode.specs.Encoding.{word_of}
use Rattle.rv_decode.specs.Ranges.{IsEncodable}
use Rattle.rv_decode.proofs.Lemmas.{decode-spells}
use Rattle.rv_text.specs.Syntax.{form, form_or_illegal, syntax, form_text, disassembly, operands_text as text_of_operands, hex, branch_mnemonic, load_mnemonic, store_mnemonic, register_mnemonic, immediate_mnemonic}
use Rattle.rv_text.specs.declared.syntax.Operands.{Operands}
use Rattle.rv_text.specs.declared.syntax.Operands.TheVariants.{Upper, Jump, Branch as BranchOperands, Indexed, Immediate, Registers, Nothing}
use Rattle.rv_asm.specs.declared.operands.Fields.{Fields}
use Rattle.rv_asm.specs.Lines.{is_blank, is_plain, code, before, colon, label_before, statement_behind, label_text, statement_text, mnemonic_text, operands_text, without_leading_blanks}
use Rattle.rv_asm.specs.Patterns.{pattern, patterns, in_range}
use Rattle.rv_asm.specs.Statements.{fields, instruction, statement_word}
use Rattle.rv_asm.specs.Assembly.{assembly, symbols_of, symbols_from, words_from, line_word}
use Rattle.rv_asm.specs.Laws.{IsFence}
use Rattle.rv_asm.proofs.LineLaws.{line-last}
use Rattle.rv_asm.proofs.Spelling.{number-small}
use Rattle.rv_asm.proofs.OperandTexts.{Words, Operand, is_word_byte, is_operand_byte, is_text_byte, words-operand, all-imply, all-join, cut-before, cut-behind, none-at, comma, indexed, signed-words, hex-words}
use Rattle.rv_asm.proofs.Reading.{upper-fields, jump-fields, branch-fields, immediate-fields, registers-fields, indexed-fields, indexed-operand, register-operand, signed-in, jump-in, branch-in, upper-in, upper-whole, immediate-in, signed-small, jump-small, branch-small, immediate-small}

-- A text begins with a word, and is a statement of this word, whatever names mean.
record Reads (t : List ℕ) (w : ℕ) : Type 0 where
  front : List ℕ
  rest : List ℕ
  is : t ≡ front ++ rest
  words : Words front
  some : 0 < length front
  bytes : list_all is_text_byte rest ≡ true
  word : (meaning : List ℕ → Option ℤ) → statement_word meaning t ≡ Ok w

-- a mnemonic and its instruction
record Names (m : List ℕ) (p : Instr) : Type 0 where
  words : Words m
  some : 0 < length m
  plain : bytes_eq m (codes ".word") ≡ false
  pattern_is : pattern m ≡ Some p

word-visible : (b : ℕ) → is_word_byte b ≡ true → not (is_blank b) ≡ true
word-visible b h = grind (arith, nat_tests)

visible-word : (m : List ℕ) → Words m → list_all (λ b. not (is_blank b)) m ≡ true
visible-word m h = all-imply is_word_byte (λ b. not (is_blank b)) word-visible m h

with-operands : (m ops : List ℕ) (p : Instr) (f : Fields) (w : ℕ) → Names m p → list_all is_text_byte ops ≡ true → ((meaning : List ℕ → Option ℤ) → fields meaning (syntax p).operands ops ≡ Ok f) → in_range p f.number ≡ true → word_of (instruction p f) ≡ w → Reads (m ++ 32 ∷ ops) w
unfolding statement_word mnemonic_text operands_text
with-operands m ops p f w names bytes read fits is = record {
  front = m;
  rest = 32 ∷ ops;
  is = refl;
  words = names.words;
  some = names.some;
  bytes = bytes;
  word = λ meaning. rw (cut-before is_blank m ops 32 (visible-word m names.words) refl, cut-behind is_blank m ops 32 (visible-word m names.words) refl, names.plain, names.pattern_is, read meaning, fits, is) refl;
}

alone : (m : List ℕ) (p : Instr) (f : Fields) (w : ℕ) → Names m p → ((meaning : List ℕ → Option ℤ) → fields meaning (syntax p).operands [] ≡ Ok f) → in_range p f.number ≡ true → word_of (instruction p f) ≡ w → Reads (m ++ []) w
unfolding statement_word mnemonic_text operands_text
alone m p f w names read fits is =
    let at : position_or_len is_blank (m ++ []) ≡ length (m ++ []) = none-at is_blank (m ++ []) (all-join (λ b. not (is_blank b)) m [] (visible-word m names.words) refl) in
    let front : before_first is_blank (m ++ []) ≡ m = ap (λ (n : ℕ). take n (m ++ [])) at ∙ take_all (length (m ++ [])) (m ++ []) (omega arith) ∙ append-nil m in
    let behind : after_first is_blank (m ++ []) ≡ [] = ap (λ (n : ℕ). drop (n + 1) (m ++ [])) at ∙ drop_all (length (m ++ []) + 1) (m ++ []) (omega arith) in
    record {
      front = m;
      rest = [];
      is = refl;
      words = names.words;
      some = names.some;
      bytes = refl;
      word = λ meaning. rw (front, behind, names.plain, names.pattern_is, read meaning, fits, is) refl;
    }

-- ---- mnemonics

names-of : (m : List ℕ) (p : Instr) → Words m → 0 < length m → bytes_eq m (codes ".word") ≡ false → pattern m ≡ Some p → Names m p
names-of m p a b c d = record { words = a; some = b; plain = c; pattern_is = d }

lui : Names (codes "lui") (Lui 0 0)
unfolding pattern patterns syntax
lui = names-of _ _ refl (omega arith) refl refl

auipc : Names (codes "auipc") (Auipc 0 0)
unfolding pattern patterns syntax
auipc = names-of _ _ refl (omega arith) refl refl

jal : Names (codes "jal") (Jal 0 (pos 0))
unfolding pattern patterns syntax
jal = names-of _ _ refl (omega arith) refl refl

jalr : Names (codes "jalr") (Jalr 0 0 (pos 0))
unfolding pattern patterns syntax
jalr = names-of _ _ refl (omega arith) refl refl

ecall : Names (codes "ecall") Ecall
unfolding pattern patterns syntax
ecall = names-of _ _ refl (omega arith) refl refl

ebreak : Names (codes "ebreak") Ebreak
unfolding pattern patterns syntax
ebreak = names-of _ _ refl (omega arith) refl refl

branch-name : (c : Cond) → Names (branch_mnemonic c) (Branch c 0 0 (pos 0))
unfolding pattern patterns syntax
branch-name cond.Eq = names-of _ _ refl (omega arith) refl refl
branch-name cond.Ne = names-of _ _ refl (omega arith) refl refl
branch-name cond.Lt = names-of _ _ refl (omega arith) refl refl
branch-name cond.Ge = names-of _ _ refl (omega arith) refl refl
branch-name cond.Ltu = names-of _ _ refl (omega arith) refl refl
branch-name cond.Geu = names-of _ _ refl (omega arith) refl refl

load-name : (k : LoadKind) → Names (load_mnemonic k) (Load k 0 0 (pos 0))
unfolding pattern patterns syntax
load-name load.B = names-of _ _ refl (omega arith) refl refl
load-name load.H = names-of _ _ refl (omega arith) refl refl
load-name load.W = names-of _ _ refl (omega arith) refl refl
load-name load.Bu = names-of _ _ refl (omega arith) refl refl
load-name load.Hu = names-of _ _ refl (omega arith) refl refl

store-name : (k : StoreKind) → Names (store_mnemonic k) (Store k 0 0 (pos 0))
unfolding pattern patterns syntax
store-name store.B = names-of _ _ refl (omega arith) refl refl
store-name store.H = names-of _ _ refl (omega arith) refl refl
store-name store.W = names-of _ _ refl (omega arith) refl refl

register-name : (o : Op) → Names (register_mnemonic o) (OpReg o 0 0 0)
unfolding pattern patterns syntax
register-name op.Add = names-of _ _ refl (omega arith) refl refl
register-name op.Sub = names-of _ _ refl (omega arith) refl refl
register-name op.Sll = names-of _ _ refl (omega arith) refl refl
register-name op.Slt = names-of _ _ refl (omega arith) refl refl
register-name op.Sltu = names-of _ _ refl (omega arith) refl refl
register-name op.Xor = names-of _ _ refl (omega arith) refl refl
register-name op.Srl = names-of _ _ refl (omega arith) refl refl
register-name op.Sra = names-of _ _ refl (omega arith) refl refl
register-name op.Or = names-of _ _ refl (omega arith) refl refl
register-name op.And = names-of _ _ refl (omega arith) refl refl
register-name op.Mul = names-of _ _ refl (omega arith) refl refl
register-name op.Mulh = names-of _ _ refl (omega arith) refl refl
register-name op.Mulhsu = names-of _ _ refl (omega arith) refl refl
register-name op.Mulhu = names-of _ _ refl (omega arith) refl refl
register-name op.Div = names-of _ _ refl (omega arith) refl refl
register-name op.Divu = names-of _ _ refl (omega arith) refl refl
register-name op.Rem = names-of _ _ refl (omega arith) refl refl
register-name op.Remu = names-of _ _ refl (omega arith) refl refl

addi-name : Names (codes "addi") (OpImm op.Add 0 0 (pos 0))
unfolding pattern patterns syntax
addi-name = names-of _ _ refl (omega arith) refl refl

slti-name : Names (codes "slti") (OpImm op.Slt 0 0 (pos 0))
unfolding pattern patterns syntax
slti-name = names-of _ _ refl (omega arith) refl refl

sltiu-name : Names (codes "sltiu") (OpImm op.Sltu 0 0 (pos 0))
unfolding pattern patterns syntax
sltiu-name = names-of _ _ refl (omega arith) refl refl

xori-name : Names (codes "xori") (OpImm op.Xor 0 0 (pos 0))
unfolding pattern patterns syntax
xori-name = names-of _ _ refl (omega arith) refl refl

ori-name : Names (codes "ori") (OpImm op.Or 0 0 (pos 0))
unfolding pattern patterns syntax
ori-name = names-of _ _ refl (omega arith) refl refl

andi-name : Names (codes "andi") (OpImm op.And 0 0 (pos 0))
unfolding pattern patterns syntax
andi-name = names-of _ _ refl (omega arith) refl refl

slli-name : Names (codes "slli") (OpImm op.Sll 0 0 (pos 0))
unfolding pattern patterns syntax
slli-name = names-of _ _ refl (omega arith) refl refl

srli-name : Names (codes "srli") (OpImm op.Srl 0 0 (pos 0))
unfolding pattern patterns syntax
srli-name = names-of _ _ refl (omega arith) refl refl

srai-name : Names (codes "srai") (OpImm op.Sra 0 0 (pos 0))
unfolding pattern patterns syntax
srai-name = names-of _ _ refl (omega arith) refl refl

-- ---- instructions

operand-text : (b : ℕ) → is_operand_byte b ≡ true → is_text_byte b ≡ true
operand-text b h = rw h refl

operand-bytes : (xs : List ℕ) → Operand xs → list_all is_text_byte xs ≡ true
operand-bytes xs h = all-imply is_operand_byte is_text_byte operand-text xs h

two-bytes : (a b : List ℕ) → Operand a → Operand b → list_all is_text_byte (a ++ comma ++ b) ≡ true
two-bytes a b ha hb = all-join is_text_byte (a ++ comma) b (all-join is_text_byte a comma (operand-bytes a ha) refl) (operand-bytes b hb)

three-bytes : (a b c : List ℕ) → Operand a → Operand b → Operand c → list_all is_text_byte (a ++ comma ++ b ++ comma ++ c) ≡ true
three-bytes a b c ha hb hc = all-join is_text_byte (a ++ comma ++ b ++ comma) c (all-join is_text_byte (a ++ comma ++ b) comma (two-bytes a b ha hb) refl) (operand-bytes c hc)

reg : (r : ℕ) → r < 32 → Operand (120 ∷ decimal r)
reg r h = register-operand (λ x. None) r h

num : (k : ℤ) → number-small k → Operand (signed_decimal k)
num k h = words-operand (signed_decimal k) (signed-words k h)

upper-bytes : (rd u : ℕ) → rd < 32 → u < 2 ^ 20 → list_all is_text_byte (text_of_operands (Upper rd u)) ≡ true
upper-bytes rd u hr hu = all-join is_text_byte ((120 ∷ decimal rd) ++ comma ++ codes "0x") (hex u) (two-bytes (120 ∷ decimal rd) (codes "0x") (reg rd hr) refl) (operand-bytes (hex u) (words-operand (hex u) (hex-words u hu)))

indexed-bytes : (r s : ℕ) (k : ℤ) → r < 32 → s < 32 → number-small k → list_all is_text_byte (text_of_operands (Indexed r k s)) ≡ true
indexed-bytes r s k hr hs hk =
    let whole : text_of_operands (Indexed r k s) ≡ (120 ∷ decimal r) ++ comma ++ indexed (signed_decimal k) s = simp append_assoc in
    ap (list_all is_text_byte) whole ∙ two-bytes (120 ∷ decimal r) (indexed (signed_decimal k) s) (reg r hr) (indexed-operand (λ x. None) k s hk hs)

immediate-reads : (o : Op) (m : List ℕ) (rd rs1 : ℕ) (k : ℤ) → immediate_mnemonic o ≡ Some m → Names m (OpImm o 0 0 (pos 0)) → IsEncodable (OpImm o rd rs1 k) → Reads (form_text (syntax (OpImm o rd rs1 k))) (word_of (OpImm o rd rs1 k))
unfolding form_text syntax instruction in_range
immediate-reads o m rd rs1 k e names h =
    let small : number-small k = immediate-small o k h.2 in
    let shape : (syntax (OpImm o 0 0 (pos 0))).operands ≡ Immediate 0 0 (pos 0) = ap (λ (x : Option (List ℕ)). (form_or_illegal (option_map (λ m. form m (Immediate 0 0 (pos 0))) x)).operands) e in
    let text : form_text (syntax (OpImm o rd rs1 k)) ≡ m ++ 32 ∷ text_of_operands (Immediate rd rs1 k) = ap (λ (x : Option (List ℕ)). form_text (form_or_illegal (option_map (λ m. form m (Immediate rd rs1 k)) x))) e in
    subst (λ (t : List ℕ). Reads t (word_of (OpImm o rd rs1 k))) (sym text)
    (with-operands m (text_of_operands (Immediate rd rs1 k)) (OpImm o 0 0 (pos 0)) (record { first = rd; second = rs1; third = 0; number = k }) (word_of (OpImm o rd rs1 k)) names
    (three-bytes (120 ∷ decimal rd) (120 ∷ decimal rs1) (signed_decimal k) (reg rd h.0) (reg rs1 h.1) (num k small))
    (λ meaning. ap (λ (s : Operands). fields meaning s (text_of_operands (Immediate rd rs1 k))) shape ∙ immediate-fields meaning 0 0 (pos 0) rd rs1 k h.0 h.1 small)
    (immediate-in o k h.2) refl)

nothing-read : (meaning : List ℕ → Option ℤ) → fields meaning Nothing [] ≡ Ok (record { first = 0; second = 0; third = 0; number = pos 0 })
unfolding fields
nothing-read meaning = refl

reads : (i : Instr) → IsEncodable i → ¬ (IsFence i) → Reads (form_text (syntax i)) (word_of i)
unfolding form_text syntax instruction in_range
reads (Lui rd imm) h nf =
    let u : imm / 2 ^ 12 < 2 ^ 20 = omega (arith, h.1.0) in
    with-operands (codes "lui") (text_of_operands (Upper rd (imm / 2 ^ 12))) (Lui 0 0) (record { first = rd; second = 0; third = 0; number = pos (imm / 2 ^ 12) }) (word_of (Lui rd imm)) lui (upper-bytes rd (imm / 2 ^ 12) h.0 u) (λ meaning. upper-fields meaning 0 0 rd (imm / 2 ^ 12) h.0 u) (upper-in imm h.1) (ap (λ (n : ℕ). word_of (Lui rd n)) (upper-whole imm h.1))
reads (Auipc rd imm) h nf =
    let u : imm / 2 ^ 12 < 2 ^ 20 = omega (arith, h.1.0) in
    with-operands (codes "auipc") (text_of_operands (Upper rd (imm / 2 ^ 12))) (Auipc 0 0) (record { first = rd; second = 0; third = 0; number = pos (imm / 2 ^ 12) }) (word_of (Auipc rd imm)) auipc (upper-bytes rd (imm / 2 ^ 12) h.0 u) (λ meaning. upper-fields meaning 0 0 rd (imm / 2 ^ 12) h.0 u) (upper-in imm h.1) (ap (λ (n : ℕ). word_of (Auipc rd n)) (upper-whole imm h.1))
reads (Jal rd k) h nf =
    let small : number-small k = jump-small k h.1 in
    with-operands (codes "jal") (text_of_operands (Jump rd k)) (Jal 0 (pos 0)) (record { first = rd; second = 0; third = 0; number = k }) (word_of (Jal rd k)) jal (two-bytes (120 ∷ decimal rd) (signed_decimal k) (reg rd h.0) (num k small)) (λ meaning. jump-fields meaning 0 (pos 0) rd k h.0 small) (jump-in k h.1) refl
reads (Jalr rd rs1 k) h nf =
    let small : number-small k = signed-small k h.2 in
    with-operands (codes "jalr") (text_of_operands (Indexed rd k rs1)) (Jalr 0 0 (pos 0)) (record { first = rd; second = rs1; third = 0; number = k }) (word_of (Jalr rd rs1 k)) jalr (indexed-bytes rd rs1 k h.0 h.1 small) (λ meaning. indexed-fields meaning 0 (pos 0) 0 rd rs1 k h.0 h.1 small) (signed-in k h.2) refl
reads (Branch c rs1 rs2 k) h nf =
    let small : number-small k = branch-small k h.2 in
    with-operands (branch_mnemonic c) (text_of_operands (BranchOperands rs1 rs2 k)) (Branch c 0 0 (pos 0)) (record { first = rs1; second = rs2; third = 0; number = k }) (word_of (Branch c rs1 rs2 k)) (branch-name c) (three-bytes (120 ∷ decimal rs1) (120 ∷ decimal rs2) (signed_decimal k) (reg rs1 h.0) (reg rs2 h.1) (num k small)) (λ meaning. branch-fields meaning 0 0 (pos 0) rs1 rs2 k h.0 h.1 small) (branch-in k h.2) refl
reads (Load kind rd rs1 k) h nf =
    let small : number-small k = signed-small k h.2 in
    with-operands (load_mnemonic kind) (text_of_operands (Indexed rd k rs1)) (Load kind 0 0 (pos 0)) (record { first = rd; second = rs1; third = 0; number = k }) (word_of (Load kind rd rs1 k)) (load-name kind) (indexed-bytes rd rs1 k h.0 h.1 small) (λ meaning. indexed-fields meaning 0 (pos 0) 0 rd rs1 k h.0 h.1 small) (signed-in k h.2) refl
reads (Store kind rs1 rs2 k) h nf =
    let small : number-small k = signed-small k h.2 in
    with-operands (store_mnemonic kind) (text_of_operands (Indexed rs2 k rs1)) (Store kind 0 0 (pos 0)) (record { first = rs2; second = rs1; third = 0; number = k }) (word_of (Store kind rs1 rs2 k)) (store-name kind) (indexed-bytes rs2 rs1 k h.1 h.0 small) (λ meaning. indexed-fields meaning 0 (pos 0) 0 rs2 rs1 k h.1 h.0 small) (signed-in k h.2) refl
reads (OpReg o rd rs1 rs2) h nf =
    with-operands (register_mnemonic o) (text_of_operands (Registers rd rs1 rs2)) (OpReg o 0 0 0) (record { first = rd; second = rs1; third = rs2; number = pos 0 }) (word_of (OpReg o rd rs1 rs2)) (register-name o) (three-bytes (120 ∷ decimal rd) (120 ∷ decimal rs1) (120 ∷ decimal rs2) (reg rd h.0) (reg rs1 h.1) (reg rs2 h.2)) (λ meaning. registers-fields meaning 0 0 0 rd rs1 rs2 h.0 h.1 h.2) refl refl
reads (Fence rd rs1 k) h nf = absurd (nf tt)
reads Ecall h nf = alone (codes "ecall") Ecall (record { first = 0; second = 0; third = 0; number = pos 0 }) (word_of Ecall) ecall (λ meaning. nothing-read meaning) refl refl
reads Ebreak h nf = alone (codes "ebreak") Ebreak (record { first = 0; second = 0; third = 0; number = pos 0 }) (word_of Ebreak) ebreak (λ meaning. nothing-read meaning) refl refl
reads (OpImm op.Add rd rs1 k) h nf = immediate-reads op.Add (codes "addi") rd rs1 k refl addi-name h
reads (OpImm op.Slt rd rs1 k) h nf = immediate-reads op.Slt (codes "slti") rd rs1 k refl slti-name h
reads (OpImm op.Sltu rd rs1 k) h nf = immediate-reads op.Sltu (codes "sltiu") rd rs1 k refl sltiu-name h
reads (OpImm op.Xor rd rs1 k) h nf = immediate-reads op.Xor (codes "xori") rd rs1 k refl xori-name h
reads (OpImm op.Or rd rs1 k) h nf = immediate-reads op.Or (codes "ori") rd rs1 k refl ori-name h
reads (OpImm op.And rd rs1 k) h nf = immediate-reads op.And (codes "andi") rd rs1 k refl andi-name h
reads (OpImm op.Sll rd rs1 k) h nf = immediate-reads op.Sll (codes "slli") rd rs1 k refl slli-name h
reads (OpImm op.Srl rd rs1 k) h nf = immediate-reads op.Srl (codes "srli") rd rs1 k refl srli-name h
reads (OpImm op.Sra rd rs1 k) h nf = immediate-reads op.Sra (codes "srai") rd rs1 k refl srai-name h
reads (OpImm _ rd rs1 k) h nf = absurd h.2

-- ---- the one line

position-none : (p : ℕ → Bool) (xs : List ℕ) → list_all (λ b. not (p b)) xs ≡ true → position p xs ≡ None
position-none p xs h =
    let at : position_or_len p xs ≡ length xs = none-at p xs h in
    ap (λ (b : Bool). cond b (Some (position_or_len p xs)) None) (le-ltb (position_or_len p xs) (length xs) (omega arith))

begins : (m rest : List ℕ) → Words m → 0 < length m → without_leading_blanks (m ++ rest) ≡ m ++ rest
begins [] rest h some = absurd (omega arith)
begins (x ∷ xs) rest h some = by-test (is_blank x) (word-visible x (and_parts (is_word_byte x) (list_all is_word_byte xs) h).0)
  where
    by-test : (b : Bool) → not b ≡ true → drop (cond b (1 + prefix_len is_blank (xs ++ rest)) 0) (x ∷ (xs ++ rest)) ≡ x ∷ (xs ++ rest)
    by-test true e = absurd (cc)
    by-test false e = refl

text-plain : (b : ℕ) → is_text_byte b ≡ true → is_plain b ≡ true
text-plain b h = grind (arith, nat_tests)

text-no : (v : ℕ) → (v ≡ 10) ⊎ ((v ≡ 35) ⊎ (v ≡ 58)) → (b : ℕ) → is_text_byte b ≡ true → not (b == v) ≡ true
text-no v h b t = grind (arith, nat_tests)

-- a text of such bytes has no comment and no label
module _ (t : List ℕ) (bytes : list_all is_text_byte t ≡ true) where
  code-is : code t ≡ t
  unfolding before
  code-is =
      ap (λ (n : ℕ). take n t) (none-at (λ b. b == 35) t (all-imply is_text_byte (λ b. not (b == 35)) (text-no 35 (inr (inl refl))) t bytes))
      ∙ take_all (length t) t (omega arith)

  no-colon : colon (code t) ≡ None
  no-colon = ap colon code-is ∙ position-none (λ b. b == 58) t (all-imply is_text_byte (λ b. not (b == 58)) (text-no 58 (inr (inr refl))) t bytes)

  label-is : label_text t ≡ None
  unfolding label_text
  label-is = ap (label_before (code t)) no-colon

  statement-is : without_leading_blanks t ≡ t → statement_text t ≡ t
  unfolding statement_text
  statement-is visible = ap (statement_behind (code t)) no-colon ∙ ap without_leading_blanks code-is ∙ visible

  line-is : 0 < length t → lines t ≡ t ∷ []
  line-is some = line-last t some (position-none (λ b. b == 10) t (all-imply is_text_byte (λ b. not (b == 10)) (text-no 10 (inl refl)) t bytes))

assembles : (t : List ℕ) (w : ℕ) → Reads t w → assembly t ≡ Ok (w ∷ [])
unfolding assembly words_from symbols_of symbols_from line_word
assembles t w r =
    let word-bytes : list_all is_text_byte r.front ≡ true = operand-bytes r.front (words-operand r.front r.words) in
    let bytes : list_all is_text_byte t ≡ true = ap (list_all is_text_byte) r.is ∙ all-join is_text_byte r.front r.rest word-bytes r.bytes in
    let visible : without_leading_blanks t ≡ t = ap without_leading_blanks r.is ∙ begins r.front r.rest r.words r.some ∙ sym r.is in
    let some : 0 < length t = let e = ap length r.is ∙ length-append r.front r.rest in let s = r.some in omega arith in
    let long : (length t == 0) ≡ false = ne_eqb (length t) 0 (λ e. let bad : ⊥ = omega arith in bad) in
    let plain : list_all is_plain t ≡ true = all-imply is_text_byte is_plain text-plain t bytes in
    rw (line-is t bytes some, label-is t bytes, code-is t bytes, plain, statement-is t bytes visible, long, r.word) refl

pub round-trip : (w : ℕ) (i : Instr) → w < 2 ^ 32 → decode w ≡ Some i → ¬ (IsFence i) → assembly (disassembly w) ≡ Ok (w ∷ [])
unfolding disassembly
round-trip w i small decodes nf =
    let spells = decode-spells w small i decodes in
    ap (λ (o : Option Instr). assembly (form_text (form_or_illegal (option_map syntax o)))) decodes
    ∙ assembles (form_text (syntax i)) w (subst (λ (v : ℕ). Reads (form_text (syntax i)) v) spells.word_is (reads i spells.in_ranges nf))
