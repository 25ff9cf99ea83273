-- Each row of the tables: the fields that it takes of a word spell that word.
use Rattle.std.proofs.Common.{◌≡◌, ℕ, ◌+◌, ◌*◌, ◌%◌, ◌^◌, ◌<◌, Bool, true, false, ℤ, pos, ◌&&◌, ◌==◌, cond, List, [], ◌∷◌, ◌++◌, map, Some, refl, sym, subst, arith}
use Rattle.std.specs.Prelude.{find, option_map, ◌≤ℤ◌, ◌<ℤ◌}
use Rattle.std.specs.List.{AllByRecursion}
use Rattle.std.specs.Int.{w32, cast_unsigned}
use Rattle.std.proofs.lemmas.Bool.{eqb-true, and_parts}
use Rattle.std.proofs.lemmas.Int.{ints}
use Rattle.rv_base.specs.declared.instr.Op.{Op}
use Rattle.rv_base.specs.declared.instr.Op.TheVariants as op
use Rattle.rv_base.specs.declared.instr.Cond.{Cond}
use Rattle.rv_base.specs.declared.instr.Cond.TheVariants as cond_kind
use Rattle.rv_base.specs.declared.instr.LoadKind.{LoadKind}
use Rattle.rv_base.specs.declared.instr.LoadKind.TheVariants as load
use Rattle.rv_base.specs.declared.instr.StoreKind.{StoreKind}
use Rattle.rv_base.specs.declared.instr.StoreKind.TheVariants as store
use Rattle.rv_base.specs.declared.instr.Instr.{Instr}
use Rattle.rv_base.specs.declared.instr.Instr.TheVariants as instr
use Rattle.rv_spec.specs.Words.{bits_of}
use Rattle.rv_spec.specs.Decode.{Encoding, by_opcode, by_funct3, by_funct7, by_word, by_table, decode, rv32im_table, opcode, rd, funct3, rs1, rs2, funct7, imm_i, imm_s, imm_b, imm_u, imm_j, branch_instr, load_instr, store_instr, imm_instr, shift_instr, reg_instr}
use Rattle.rv_decode.specs.Encoding.{r_type, i_type, s_type, b_type, u_type, j_type, branch_funct3, load_funct3, store_funct3, op_funct3, op_funct7, immediate_mark, word_of}
use Rattle.rv_decode.specs.Ranges.{IsSigned, IsOffset, IsImmediate, IsEncodable}
use Rattle.rv_decode.proofs.WordFields.{r_type-own, i-own, s-own, b-own, u-own, j-own, b_number, j_number, extend-cut, extend-signed, extend-even, plus-zero}

-- ---- any table

-- what each row makes of the words that fit it is so of what the table makes of a word
pub by_table-some : {A : Type 0} (P : Encoding A → Type 0) (Q : A → Type 0) (w : ℕ) → ((r : Encoding A) → P r → r.matches w ≡ true → Q (r.fields w)) → (rows : List (Encoding A)) → AllByRecursion P rows → (i : A) → by_table rows w ≡ Some i → Q i
by_table-some P Q w law [] each i e = absurd (cc)
by_table-some {A} P Q w law (r ∷ rs) each i e = first (r.matches w) refl (λ rest. by_table-some P Q w law rs each.1 i rest) e
  where
    first : (b : Bool) → r.matches w ≡ b → (by_table rs w ≡ Some i → Q i) → option_map (λ (q : Encoding A). q.fields w) (cond b (Some r) (find (λ q. q.matches w) rs)) ≡ Some i → Q i
    first true m later e = let same : r.fields w ≡ i = cc in subst Q same (law r each.0 m)
    first false m later e = later e

pub all-append : {A : Type 0} (P : A → Type 0) (xs ys : List A) → AllByRecursion P xs → AllByRecursion P ys → AllByRecursion P (xs ++ ys)
all-append P [] ys a b = b
all-append P (x ∷ xs) ys a b = (a.0, all-append P xs ys a.1 b)

pub all-map : {A B : Type 0} (P : B → Type 0) (f : A → B) → ((x : A) → P (f x)) → (xs : List A) → AllByRecursion P (map f xs)
all-map P f law [] = tt
all-map P f law (x ∷ xs) = (law x, all-map P f law xs)

-- ---- the formats: fields in their places give back the word

pub r-word : (o f g w : ℕ) → w < 2 ^ 32 → opcode w ≡ o → funct3 w ≡ f → funct7 w ≡ g → r_type o (rd w) f (rs1 w) (rs2 w) g ≡ w
r-word o f g w h eo ef eg = rw (← eo, ← ef, ← eg) (r_type-own w h)

i-word : (o f w : ℕ) → w < 2 ^ 32 → opcode w ≡ o → funct3 w ≡ f → i_type o (rd w) f (rs1 w) (imm_i w) ≡ w
i-word o f w h eo ef = rw (← eo, ← ef) (i-own w (cast_unsigned w32 (imm_i w)) h (extend-cut 12 (bits_of 20 12 w) (omega arith) (omega arith)))

i-signed : (w : ℕ) → IsSigned 12 (imm_i w)
i-signed w = extend-signed 12 (bits_of 20 12 w) (omega arith) (omega arith)

s-word : (o f w : ℕ) → w < 2 ^ 32 → opcode w ≡ o → funct3 w ≡ f → s_type o f (rs1 w) (rs2 w) (imm_s w) ≡ w
s-word o f w h eo ef = rw (← eo, ← ef) (s-own w (cast_unsigned w32 (imm_s w)) h (extend-cut 12 (bits_of 25 7 w * 2 ^ 5 + bits_of 7 5 w) (omega arith) (omega arith)))

s-signed : (w : ℕ) → IsSigned 12 (imm_s w)
s-signed w = extend-signed 12 (bits_of 25 7 w * 2 ^ 5 + bits_of 7 5 w) (omega arith) (omega arith)

b-word : (o f w : ℕ) → w < 2 ^ 32 → opcode w ≡ o → funct3 w ≡ f → b_type o f (rs1 w) (rs2 w) (imm_b w) ≡ w
b-word o f w h eo ef = rw (← eo, ← ef) (b-own w (cast_unsigned w32 (imm_b w)) h (extend-cut 13 (b_number w) (omega arith) (omega arith)))

b-offset : (w : ℕ) → IsOffset 13 (imm_b w)
b-offset w =
    let small : b_number w < 2 ^ 13 = omega arith in
    (extend-signed 13 (b_number w) (omega arith) small, extend-even 13 (b_number w) (omega arith) small (omega arith))

u-word : (o w : ℕ) → w < 2 ^ 32 → opcode w ≡ o → u_type o (rd w) (imm_u w) ≡ w
u-word o w h eo = rw (← eo) (u-own w h)

j-word-is : (o w : ℕ) → w < 2 ^ 32 → opcode w ≡ o → j_type o (rd w) (imm_j w) ≡ w
j-word-is o w h eo = rw (← eo) (j-own w (cast_unsigned w32 (imm_j w)) h (extend-cut 21 (j_number w) (omega arith) (omega arith)))

j-offset : (w : ℕ) → IsOffset 21 (imm_j w)
j-offset w =
    let small : j_number w < 2 ^ 21 = omega arith in
    (extend-signed 21 (j_number w) (omega arith) small, extend-even 21 (j_number w) (omega arith) small (omega arith))

-- ---- RV32I and M

-- the instruction has this word and is in its ranges
pub record Spells (w : ℕ) (i : Instr) : Type 0 where
  pub word_is : word_of i ≡ w
  pub in_ranges : IsEncodable i

abbrev RowSpells : Encoding Instr → Type 0
RowSpells r = (w : ℕ) → w < 2 ^ 32 → r.matches w ≡ true → Spells w (r.fields w)

opcode-row : (o : ℕ) (make : ℕ → Instr) → ((w : ℕ) → w < 2 ^ 32 → opcode w ≡ o → Spells w (make w)) → RowSpells (by_opcode o make)
opcode-row o make law w h m = law w h (eqb-true (opcode w) o m)

funct3-row : (o f : ℕ) (make : ℕ → Instr) → ((w : ℕ) → w < 2 ^ 32 → opcode w ≡ o → funct3 w ≡ f → Spells w (make w)) → RowSpells (by_funct3 o f make)
funct3-row o f make law w h m =
    let both = and_parts (opcode w == o) (funct3 w == f) m in
    law w h (eqb-true (opcode w) o both.0) (eqb-true (funct3 w) f both.1)

funct7-row : (o f g : ℕ) (make : ℕ → Instr) → ((w : ℕ) → w < 2 ^ 32 → opcode w ≡ o → funct3 w ≡ f → funct7 w ≡ g → Spells w (make w)) → RowSpells (by_funct7 o f g make)
funct7-row o f g make law w h m =
    let all = and_parts (opcode w == o && funct3 w == f) (funct7 w == g) m in
    let both = and_parts (opcode w == o) (funct3 w == f) all.0 in
    law w h (eqb-true (opcode w) o both.0) (eqb-true (funct3 w) f both.1) (eqb-true (funct7 w) g all.1)

lui-row : RowSpells (by_opcode 0x37 (λ w. instr.Lui (rd w) (imm_u w)))
unfolding word_of
lui-row = opcode-row 0x37 _ (λ w h eo. record { word_is = u-word 0x37 w h eo; in_ranges = (omega arith, (omega arith, omega arith)) })

auipc-row : RowSpells (by_opcode 0x17 (λ w. instr.Auipc (rd w) (imm_u w)))
unfolding word_of
auipc-row = opcode-row 0x17 _ (λ w h eo. record { word_is = u-word 0x17 w h eo; in_ranges = (omega arith, (omega arith, omega arith)) })

jal-row : RowSpells (by_opcode 0x6F (λ w. instr.Jal (rd w) (imm_j w)))
unfolding word_of
jal-row = opcode-row 0x6F _ (λ w h eo. record { word_is = j-word-is 0x6F w h eo; in_ranges = (omega arith, j-offset w) })

jalr-row : RowSpells (by_funct3 0x67 0 (λ w. instr.Jalr (rd w) (rs1 w) (imm_i w)))
unfolding word_of
jalr-row = funct3-row 0x67 0 _ (λ w h eo ef. record { word_is = i-word 0x67 0 w h eo ef; in_ranges = (omega arith, omega arith, i-signed w) })

branch-row : (c : Cond) → RowSpells (by_funct3 0x63 (branch_funct3 c) (branch_instr c))
unfolding word_of
branch-row c = funct3-row 0x63 (branch_funct3 c) _ (λ w h eo ef. record { word_is = b-word 0x63 (branch_funct3 c) w h eo ef; in_ranges = (omega arith, omega arith, b-offset w) })

load-row : (k : LoadKind) → RowSpells (by_funct3 0x03 (load_funct3 k) (load_instr k))
unfolding word_of
load-row k = funct3-row 0x03 (load_funct3 k) _ (λ w h eo ef. record { word_is = i-word 0x03 (load_funct3 k) w h eo ef; in_ranges = (omega arith, omega arith, i-signed w) })

store-row : (k : StoreKind) → RowSpells (by_funct3 0x23 (store_funct3 k) (store_instr k))
unfolding word_of
store-row k = funct3-row 0x23 (store_funct3 k) _ (λ w h eo ef. record { word_is = s-word 0x23 (store_funct3 k) w h eo ef; in_ranges = (omega arith, omega arith, s-signed w) })

-- an operation of OP-IMM other than a shift
imm-row : (o : Op) → immediate_mark o ≡ 0 → ((z : ℤ) → IsSigned 12 z → IsImmediate o z) → RowSpells (by_funct3 0x13 (op_funct3 o) (imm_instr o))
unfolding word_of
imm-row o unmarked ranges = funct3-row 0x13 (op_funct3 o) _ (λ w h eo ef. record {
  word_is = rw unmarked (rw (plus-zero (imm_i w)) (i-word 0x13 (op_funct3 o) w h eo ef));
  in_ranges = (omega arith, omega arith, ranges (imm_i w) (i-signed w));
})

shift-row : (o : Op) → immediate_mark o ≡ op_funct7 o * 2 ^ 5 → ((z : ℤ) → (pos 0 ≤ℤ z) × (z <ℤ pos 32) → IsImmediate o z) → RowSpells (by_funct7 0x13 (op_funct3 o) (op_funct7 o) (shift_instr o))
unfolding word_of
shift-row o marked ranges = funct7-row 0x13 (op_funct3 o) (op_funct7 o) _ spells
  where
    spells : (w : ℕ) → w < 2 ^ 32 → opcode w ≡ 0x13 → funct3 w ≡ op_funct3 o → funct7 w ≡ op_funct7 o → Spells w (shift_instr o w)
    spells w h eo ef eg =
        let low : (rs2 w + immediate_mark o) % 2 ^ 5 ≡ rs2 w = omega (arith, marked, eg) in
        let high : bits_of 5 7 (rs2 w + immediate_mark o) ≡ op_funct7 o = omega (arith, marked, eg) in
        record {
          word_is = rw (low, high) (r-word 0x13 (op_funct3 o) (op_funct7 o) w h eo ef eg);
          in_ranges = (omega arith, omega arith, ranges (pos (rs2 w)) (omega (arith, ints), omega (arith, ints)));
        }

reg-row : (o : Op) → RowSpells (by_funct7 0x33 (op_funct3 o) (op_funct7 o) (reg_instr o))
unfolding word_of
reg-row o = funct7-row 0x33 (op_funct3 o) (op_funct7 o) _ (λ w h eo ef eg. record {
  word_is = r-word 0x33 (op_funct3 o) (op_funct7 o) w h eo ef eg;
  in_ranges = (omega arith, omega arith, omega arith);
})

fence-row : RowSpells (by_funct3 0x0F 0 (λ w. instr.Fence (rd w) (rs1 w) (imm_i w)))
unfolding word_of
fence-row = funct3-row 0x0F 0 _ (λ w h eo ef. record { word_is = i-word 0x0F 0 w h eo ef; in_ranges = (omega arith, omega arith, i-signed w) })

ecall-row : RowSpells (by_word 0x00000073 instr.Ecall)
unfolding word_of
ecall-row w h m = record { word_is = sym (eqb-true w 0x00000073 m); in_ranges = tt }

ebreak-row : RowSpells (by_word 0x00100073 instr.Ebreak)
unfolding word_of
ebreak-row w h m = record { word_is = sym (eqb-true w 0x00100073 m); in_ranges = tt }

abbrev conds : List Cond
conds = cond_kind.Eq ∷ cond_kind.Ne ∷ cond_kind.Lt ∷ cond_kind.Ge ∷ cond_kind.Ltu ∷ cond_kind.Geu ∷ []

abbrev loads : List LoadKind
loads = load.B ∷ load.H ∷ load.W ∷ load.Bu ∷ load.Hu ∷ []

abbrev stores : List StoreKind
stores = store.B ∷ store.H ∷ store.W ∷ []

abbrev operations : List Op
operations = op.Add ∷ op.Sll ∷ op.Slt ∷ op.Sltu ∷ op.Xor ∷ op.Srl ∷ op.Or ∷ op.And ∷ op.Sub ∷ op.Sra ∷ op.Mul ∷ op.Mulh ∷ op.Mulhsu ∷ op.Mulhu ∷ op.Div ∷ op.Divu ∷ op.Rem ∷ op.Remu ∷ []

abbrev jump_rows : List (Encoding Instr)
jump_rows =
    by_opcode 0x37 (λ w. instr.Lui (rd w) (imm_u w))
    ∷ by_opcode 0x17 (λ w. instr.Auipc (rd w) (imm_u w))
    ∷ by_opcode 0x6F (λ w. instr.Jal (rd w) (imm_j w))
    ∷ by_funct3 0x67 0 (λ w. instr.Jalr (rd w) (rs1 w) (imm_i w))
    ∷ []

abbrev branch_rows : List (Encoding Instr)
branch_rows = map (λ c. by_funct3 0x63 (branch_funct3 c) (branch_instr c)) conds

abbrev load_rows : List (Encoding Instr)
load_rows = map (λ k. by_funct3 0x03 (load_funct3 k) (load_instr k)) loads

abbrev store_rows : List (Encoding Instr)
store_rows = map (λ k. by_funct3 0x23 (store_funct3 k) (store_instr k)) stores

abbrev imm_rows : List (Encoding Instr)
imm_rows = map (λ o. by_funct3 0x13 (op_funct3 o) (imm_instr o)) (op.Add ∷ op.Slt ∷ op.Sltu ∷ op.Xor ∷ op.Or ∷ op.And ∷ [])

abbrev shift_rows : List (Encoding Instr)
shift_rows = map (λ o. by_funct7 0x13 (op_funct3 o) (op_funct7 o) (shift_instr o)) (op.Sll ∷ op.Srl ∷ op.Sra ∷ [])

abbrev reg_rows : List (Encoding Instr)
reg_rows = map (λ o. by_funct7 0x33 (op_funct3 o) (op_funct7 o) (reg_instr o)) operations

abbrev system_rows : List (Encoding Instr)
system_rows =
    by_funct3 0x0F 0 (λ w. instr.Fence (rd w) (rs1 w) (imm_i w))
    ∷ by_word 0x00000073 instr.Ecall
    ∷ by_word 0x00100073 instr.Ebreak
    ∷ []

-- the table by its formats
by-format : rv32im_table ≡ jump_rows ++ (branch_rows ++ (load_rows ++ (store_rows ++ (imm_rows ++ (shift_rows ++ (reg_rows ++ system_rows))))))
unfolding rv32im_table
by-format = refl

imm-rows-spell : AllByRecursion RowSpells imm_rows
imm-rows-spell =
    let same = λ (z : ℤ) (s : IsSigned 12 z). s in
    (imm-row op.Add refl same, (imm-row op.Slt refl same, (imm-row op.Sltu refl same, (imm-row op.Xor refl same, (imm-row op.Or refl same, (imm-row op.And refl same, tt))))))

shift-rows-spell : AllByRecursion RowSpells shift_rows
shift-rows-spell =
    let same = λ (z : ℤ) (s : (pos 0 ≤ℤ z) × (z <ℤ pos 32)). s in
    (shift-row op.Sll refl same, (shift-row op.Srl refl same, (shift-row op.Sra refl same, tt)))

each-row : AllByRecursion RowSpells rv32im_table
each-row =
    let system : AllByRecursion RowSpells system_rows = (fence-row, (ecall-row, (ebreak-row, tt))) in
    let jumps : AllByRecursion RowSpells jump_rows = (lui-row, (auipc-row, (jal-row, (jalr-row, tt)))) in
    let from_reg = all-append RowSpells reg_rows system_rows (all-map RowSpells _ reg-row operations) system in
    let from_shift = all-append RowSpells shift_rows (reg_rows ++ system_rows) shift-rows-spell from_reg in
    let from_imm = all-append RowSpells imm_rows (shift_rows ++ (reg_rows ++ system_rows)) imm-rows-spell from_shift in
    let from_store = all-append RowSpells store_rows (imm_rows ++ (shift_rows ++ (reg_rows ++ system_rows))) (all-map RowSpells _ store-row stores) from_imm in
    let from_load = all-append RowSpells load_rows (store_rows ++ (imm_rows ++ (shift_rows ++ (reg_rows ++ system_rows)))) (all-map RowSpells _ load-row loads) from_store in
    let from_branch = all-append RowSpells branch_rows (load_rows ++ (store_rows ++ (imm_rows ++ (shift_rows ++ (reg_rows ++ system_rows))))) (all-map RowSpells _ branch-row conds) from_load in
    subst (AllByRecursion RowSpells) (sym by-format) (all-append RowSpells jump_rows (branch_rows ++ (load_rows ++ (store_rows ++ (imm_rows ++ (shift_rows ++ (reg_rows ++ system_rows)))))) jumps from_branch)

pub decode-spells : (w : ℕ) → w < 2 ^ 32 → (i : Instr) → decode w ≡ Some i → Spells w i
unfolding decode
decode-spells w h i e = by_table-some RowSpells (Spells w) w (λ r law m. law w h m) rv32im_table each-row i e
