-- The disassembly of an instruction is assembled to its word.
use Rattle.std.proofs.Common.{◌≡◌, ℕ, ◌*◌, ◌/◌, ◌^◌, ◌<◌, ◌≤ℤ◌, ◌<ℤ◌, ℤ, pos, negsuc, true, ◌&&◌, List, [], ◌∷◌, ◌++◌, Option, Result, Ok, decimal, refl, ap, arith, append_assoc}
use Rattle.std.specs.Fmt.{signed_decimal}
use Rattle.std.proofs.lemmas.Int.{ints}
use Rattle.rv_base.specs.declared.instr.Op.{Op}
use Rattle.rv_base.specs.declared.instr.Op.TheVariants as op
use Rattle.rv_decode.specs.Ranges.{IsSigned, IsOffset, IsUpper, IsImmediate}
use Rattle.rv_text.specs.Syntax.{operands_text as text_of_operands, hex}
use Rattle.rv_text.specs.declared.syntax.Operands.TheVariants.{Upper, Jump, Branch as BranchOperands, Indexed, Immediate, Registers}
use Rattle.rv_asm.specs.declared.operands.Fields.{Fields}
use Rattle.rv_asm.specs.Patterns.{is_within, is_even, is_immediate}
use Rattle.rv_asm.specs.Statements.{fields, target, number_or_name}
use Rattle.rv_asm.proofs.Spelling.{number-read, upper-read, register-read, number-small}
use Rattle.rv_asm.proofs.OperandTexts.{Operand, words-operand, all-join, two-texts, three-texts, offset-text, base-text, indexed, comma, signed-words, hex-words, register-words, is_operand_byte}

-- ---- ranges of numbers

pub signed-in : (k : ℤ) → IsSigned 12 k → is_within (negsuc 2047) (pos 2047) k ≡ true
signed-in k h = grind (arith, ints)

pub jump-in : (k : ℤ) → IsOffset 21 k → (is_within (negsuc 1048575) (pos 1048574) k && is_even k) ≡ true
jump-in k h = grind (arith, ints)

pub branch-in : (k : ℤ) → IsOffset 13 k → (is_within (negsuc 4095) (pos 4094) k && is_even k) ≡ true
branch-in k h = grind (arith, ints)

shift-in : (k : ℤ) → (pos 0 ≤ℤ k) × (k <ℤ pos 32) → is_within (pos 0) (pos 31) k ≡ true
shift-in k h = grind (arith, ints)

pub upper-in : (n : ℕ) → IsUpper n → is_within (pos 0) (pos 1048575) (pos (n / 2 ^ 12)) ≡ true
upper-in n h = grind (arith, ints)

pub upper-whole : (n : ℕ) → IsUpper n → n / 2 ^ 12 * 2 ^ 12 ≡ n
upper-whole n h = omega (arith, h.0, h.1)

pub immediate-in : (o : Op) (k : ℤ) → IsImmediate o k → is_immediate o k ≡ true
immediate-in op.Sll k h = shift-in k h
immediate-in op.Srl k h = shift-in k h
immediate-in op.Sra k h = shift-in k h
immediate-in op.Add k h = signed-in k h
immediate-in op.Slt k h = signed-in k h
immediate-in op.Sltu k h = signed-in k h
immediate-in op.Xor k h = signed-in k h
immediate-in op.Or k h = signed-in k h
immediate-in op.And k h = signed-in k h
immediate-in _ k h = absurd h

pub signed-small : (k : ℤ) → IsSigned 12 k → number-small k
signed-small (pos n) h = omega (arith, ints, h.1)
signed-small (negsuc n) h = omega (arith, ints, h.0)

pub jump-small : (k : ℤ) → IsOffset 21 k → number-small k
jump-small (pos n) h = omega (arith, ints, h.0.1)
jump-small (negsuc n) h = omega (arith, ints, h.0.0)

pub branch-small : (k : ℤ) → IsOffset 13 k → number-small k
branch-small (pos n) h = omega (arith, ints, h.0.1)
branch-small (negsuc n) h = omega (arith, ints, h.0.0)

shift-small : (k : ℤ) → (pos 0 ≤ℤ k) × (k <ℤ pos 32) → number-small k
shift-small (pos n) h = omega (arith, ints, h.1)
shift-small (negsuc n) h = omega (arith, ints, h.0)

pub immediate-small : (o : Op) (k : ℤ) → IsImmediate o k → number-small k
immediate-small op.Sll k h = shift-small k h
immediate-small op.Srl k h = shift-small k h
immediate-small op.Sra k h = shift-small k h
immediate-small op.Add k h = signed-small k h
immediate-small op.Slt k h = signed-small k h
immediate-small op.Sltu k h = signed-small k h
immediate-small op.Xor k h = signed-small k h
immediate-small op.Or k h = signed-small k h
immediate-small op.And k h = signed-small k h
immediate-small _ k h = absurd h

-- ---- operands of each shape

module _ (meaning : List ℕ → Option ℤ) where
  abbrev result : Fields → Result Fields ℕ
  result f = Ok f

  abbrev pub spelt : ℕ → ℕ → ℕ → ℤ → Fields
  spelt a b c n = record { first = a; second = b; third = c; number = n }

  pub register-operand : (r : ℕ) → r < 32 → Operand (120 ∷ decimal r)
  register-operand r h = words-operand (120 ∷ decimal r) (register-words r h)

  target-read : (k : ℤ) → number-small k → target meaning (signed_decimal k) ≡ Ok k
  unfolding target
  target-read k h = ap (λ (o : Option ℤ). number_or_name meaning (signed_decimal k) o) (number-read k h)

  pub upper-fields : (a b rd u : ℕ) → rd < 32 → u < 2 ^ 20 → fields meaning (Upper a b) (text_of_operands (Upper rd u)) ≡ Ok (spelt rd 0 0 (pos u))
  unfolding fields
  upper-fields a b rd u hr hu =
      let whole : text_of_operands (Upper rd u) ≡ (120 ∷ decimal rd) ++ comma ++ (48 ∷ 120 ∷ hex u) = append_assoc ((120 ∷ decimal rd) ++ comma) (48 ∷ 120 ∷ []) (hex u) in
      let texts = two-texts (120 ∷ decimal rd) (48 ∷ 120 ∷ hex u) (register-operand rd hr) (words-operand (48 ∷ 120 ∷ hex u) (hex-words u hu)) in
      rw (whole, texts.0, texts.1, register-read rd hr, upper-read u hu) refl

  pub jump-fields : (a : ℕ) (b : ℤ) (rd : ℕ) (k : ℤ) → rd < 32 → number-small k → fields meaning (Jump a b) (text_of_operands (Jump rd k)) ≡ Ok (spelt rd 0 0 k)
  unfolding fields
  jump-fields a b rd k hr hk =
      let texts = two-texts (120 ∷ decimal rd) (signed_decimal k) (register-operand rd hr) (words-operand (signed_decimal k) (signed-words k hk)) in
      rw (texts.0, texts.1, register-read rd hr, target-read k hk) refl

  pub branch-fields : (a b : ℕ) (c : ℤ) (r s : ℕ) (k : ℤ) → r < 32 → s < 32 → number-small k → fields meaning (BranchOperands a b c) (text_of_operands (BranchOperands r s k)) ≡ Ok (spelt r s 0 k)
  unfolding fields
  branch-fields a b c r s k hr hs hk =
      let texts = three-texts (120 ∷ decimal r) (120 ∷ decimal s) (signed_decimal k) (register-operand r hr) (register-operand s hs) (words-operand (signed_decimal k) (signed-words k hk)) in
      rw (texts.0, texts.1, texts.2, register-read r hr, register-read s hs, target-read k hk) refl

  pub immediate-fields : (a b : ℕ) (c : ℤ) (r s : ℕ) (k : ℤ) → r < 32 → s < 32 → number-small k → fields meaning (Immediate a b c) (text_of_operands (Immediate r s k)) ≡ Ok (spelt r s 0 k)
  unfolding fields
  immediate-fields a b c r s k hr hs hk =
      let texts = three-texts (120 ∷ decimal r) (120 ∷ decimal s) (signed_decimal k) (register-operand r hr) (register-operand s hs) (words-operand (signed_decimal k) (signed-words k hk)) in
      rw (texts.0, texts.1, texts.2, register-read r hr, register-read s hs, number-read k hk) refl

  pub registers-fields : (a b c r s t : ℕ) → r < 32 → s < 32 → t < 32 → fields meaning (Registers a b c) (text_of_operands (Registers r s t)) ≡ Ok (spelt r s t (pos 0))
  unfolding fields
  registers-fields a b c r s t hr hs ht =
      let texts = three-texts (120 ∷ decimal r) (120 ∷ decimal s) (120 ∷ decimal t) (register-operand r hr) (register-operand s hs) (register-operand t ht) in
      rw (texts.0, texts.1, texts.2, register-read r hr, register-read s hs, register-read t ht) refl

  pub indexed-operand : (k : ℤ) (s : ℕ) → number-small k → s < 32 → Operand (indexed (signed_decimal k) s)
  indexed-operand k s hk hs = all-join is_operand_byte (signed_decimal k) (40 ∷ ((120 ∷ decimal s) ++ 41 ∷ [])) (words-operand (signed_decimal k) (signed-words k hk)) (all-join is_operand_byte (120 ∷ decimal s) (41 ∷ []) (register-operand s hs) refl)

  pub indexed-fields : (a : ℕ) (b : ℤ) (c r s : ℕ) (k : ℤ) → r < 32 → s < 32 → number-small k → fields meaning (Indexed a b c) (text_of_operands (Indexed r k s)) ≡ Ok (spelt r s 0 k)
  unfolding fields
  indexed-fields a b c r s k hr hs hk =
      let whole : text_of_operands (Indexed r k s) ≡ (120 ∷ decimal r) ++ comma ++ indexed (signed_decimal k) s = simp append_assoc in
      let texts = two-texts (120 ∷ decimal r) (indexed (signed_decimal k) s) (register-operand r hr) (indexed-operand k s hk hs) in
      rw (whole, texts.0, texts.1, register-read r hr, base-text (signed_decimal k) s (signed-words k hk) hs, offset-text (signed_decimal k) s (signed-words k hk), number-read k hk) refl
