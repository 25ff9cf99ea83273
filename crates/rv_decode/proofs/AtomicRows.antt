-- Extension A: its rows spell the words that fit them, and its words decode.
use Rattle.std.proofs.Common.{◌≡◌, ℕ, ◌+◌, ◌*◌, ◌^◌, ◌<◌, true, ◌&&◌, ◌==◌, Some, None, false, refl, ◌∙◌, arith}
use Rattle.std.specs.List.{AllByRecursion}
use Rattle.std.proofs.lemmas.Bool.{eqb-true, eq-eqb, ne_eqb, and_parts}
use Rattle.rv_base.specs.declared.instr.AtomicOp.{AtomicOp}
use Rattle.rv_base.specs.declared.instr.AtomicOp.TheVariants as amo
use Rattle.rv_base.specs.declared.instr.Atomic.{Atomic}
use Rattle.rv_spec.specs.Words.{bits_of}
use Rattle.rv_spec.specs.Decode.{Encoding, decode, rv32im_table, decode_atomic, rv32a_table, atomic_instr, amo_encoding, lr_encoding, opcode, funct3, rs2, funct7}
use Rattle.rv_decode.specs.Encoding.{amo_funct5, word_of_atomic}
use Rattle.rv_decode.specs.Ranges.{IsEncodableAtomic}
use Rattle.rv_decode.proofs.WordFields.{r_type-fields}
use Rattle.rv_decode.proofs.TableRows.{by_table-some, r-word}

pub record SpellsAtomic (w : ℕ) (i : Atomic) : Type 0 where
  pub word_is : word_of_atomic i ≡ w
  pub in_ranges : IsEncodableAtomic i

abbrev RowSpells : Encoding Atomic → Type 0
RowSpells r = (w : ℕ) → w < 2 ^ 32 → r.matches w ≡ true → SpellsAtomic w (r.fields w)

-- a word whose fields are those of the operation
fields-spell : (o : AtomicOp) (w : ℕ) → w < 2 ^ 32 → opcode w ≡ 0x2F → funct3 w ≡ 2 → bits_of 27 5 w ≡ amo_funct5 o → (o ≡ amo.Lr → rs2 w ≡ 0) → SpellsAtomic w (atomic_instr o w)
fields-spell o w h eo ef eg lr =
    let g : funct7 w ≡ amo_funct5 o * 2 ^ 2 + bits_of 25 2 w = omega arith in
    record {
      word_is = r-word 0x2F 2 (amo_funct5 o * 2 ^ 2 + bits_of 25 2 w) w h eo ef g;
      in_ranges = (omega arith, omega arith, omega arith, omega arith, lr);
    }

amo-row : (o : AtomicOp) → (o ≡ amo.Lr → ⊥) → RowSpells (amo_encoding (amo_funct5 o) o)
amo-row o other w h m =
    let all = and_parts (opcode w == 0x2F && funct3 w == 2) (bits_of 27 5 w == amo_funct5 o) m in
    let both = and_parts (opcode w == 0x2F) (funct3 w == 2) all.0 in
    fields-spell o w h (eqb-true (opcode w) 0x2F both.0) (eqb-true (funct3 w) 2 both.1) (eqb-true (bits_of 27 5 w) (amo_funct5 o) all.1) (λ e. absurd (other e))

lr-row : RowSpells lr_encoding
lr-row w h m =
    let first = and_parts (opcode w == 0x2F && funct3 w == 2 && bits_of 27 5 w == 0x02) (rs2 w == 0) m in
    let all = and_parts (opcode w == 0x2F && funct3 w == 2) (bits_of 27 5 w == 0x02) first.0 in
    let both = and_parts (opcode w == 0x2F) (funct3 w == 2) all.0 in
    fields-spell amo.Lr w h (eqb-true (opcode w) 0x2F both.0) (eqb-true (funct3 w) 2 both.1) (eqb-true (bits_of 27 5 w) 0x02 all.1) (λ _. eqb-true (rs2 w) 0 first.1)

each-row : AllByRecursion RowSpells rv32a_table
unfolding rv32a_table
each-row = (
  lr-row,
  (
    amo-row amo.Sc (λ e. cc),
    (
      amo-row amo.Swap (λ e. cc),
      (
        amo-row amo.Add (λ e. cc),
        (
          amo-row amo.Xor (λ e. cc),
          (
            amo-row amo.And (λ e. cc),
            (amo-row amo.Or (λ e. cc), (amo-row amo.Min (λ e. cc), (amo-row amo.Max (λ e. cc), (amo-row amo.Minu (λ e. cc), (amo-row amo.Maxu (λ e. cc), tt))))),
          ),
        ),
      ),
    ),
  ),
)

pub decode_atomic-spells : (w : ℕ) → w < 2 ^ 32 → (i : Atomic) → decode_atomic w ≡ Some i → SpellsAtomic w i
unfolding decode_atomic
decode_atomic-spells w h i e = by_table-some RowSpells (SpellsAtomic w) w (λ r law m. law w h m) rv32a_table each-row i e

atomic-at : (o : AtomicOp) (w : ℕ) → opcode w ≡ 0x2F → funct3 w ≡ 2 → bits_of 27 5 w ≡ amo_funct5 o → (o ≡ amo.Lr → rs2 w ≡ 0) → decode_atomic w ≡ Some (atomic_instr o w)
unfolding decode_atomic rv32a_table
atomic-at amo.Lr w eo ef eg lr = rw (eo, ef, eg, eq-eqb (rs2 w) 0 (lr refl)) refl
atomic-at o w eo ef eg lr = rw (eo, ef, eg) refl

amo_funct5-small : (o : AtomicOp) → amo_funct5 o < 2 ^ 5
amo_funct5-small amo.Lr = omega arith
amo_funct5-small o = omega arith

pub word_of_atomic-decodes : (i : Atomic) → IsEncodableAtomic i → decode_atomic (word_of_atomic i) ≡ Some i
word_of_atomic-decodes i r =
    let g : amo_funct5 i.op * 2 ^ 2 + i.flags < 2 ^ 7 = omega (arith, amo_funct5-small i.op, r.3) in
    let h = r_type-fields 0x2F i.rd 2 i.rs1 i.rs2 (amo_funct5 i.op * 2 ^ 2 + i.flags) (omega arith) r.0 (omega arith) r.1 r.2 g in
    let w = word_of_atomic i in
    let op_is : bits_of 27 5 w ≡ amo_funct5 i.op = upper w (amo_funct5 i.op) i.flags h.funct7_is r.3 (amo_funct5-small i.op) in
    let flags_are : bits_of 25 2 w ≡ i.flags = lower w (amo_funct5 i.op) i.flags h.funct7_is r.3 (amo_funct5-small i.op) in
    atomic-at i.op w h.opcode_is h.funct3_is op_is (λ e. h.rs2_is ∙ r.4 e) ∙ rw (h.rd_is, h.rs1_is, h.rs2_is, flags_are) refl
  where
    upper : (w f a : ℕ) → funct7 w ≡ f * 2 ^ 2 + a → a < 4 → f < 2 ^ 5 → bits_of 27 5 w ≡ f
    upper w f a e small five = omega arith

    lower : (w f a : ℕ) → funct7 w ≡ f * 2 ^ 2 + a → a < 4 → f < 2 ^ 5 → bits_of 25 2 w ≡ a
    lower w f a e small five = omega arith

-- the two tables have no opcode in common
pub atomic-apart : (w : ℕ) (i : Atomic) → w < 2 ^ 32 → decode_atomic w ≡ Some i → decode w ≡ None
unfolding decode rv32im_table
atomic-apart w i h e =
    let s = decode_atomic-spells w h i e in
    let o : opcode w ≡ 0x2F = omega (arith, s.word_is) in
    rw (o, not-ecall w o, not-ebreak w o) refl
  where
    not-ecall : (w : ℕ) → opcode w ≡ 0x2F → (w == 0x00000073) ≡ false
    not-ecall w o = ne_eqb w 0x00000073 (λ e. absurd (omega arith))

    not-ebreak : (w : ℕ) → opcode w ≡ 0x2F → (w == 0x00100073) ≡ false
    not-ebreak w o = ne_eqb w 0x00100073 (λ e. absurd (omega arith))
