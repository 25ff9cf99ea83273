-- No word fits two rows of a table.
use Rattle.std.proofs.Common.{◌≡◌, ℕ, ◌+◌, ◌%◌, ◌^◌, ◌≤◌, Bool, true, false, ◌&&◌, ◌||◌, not, ◌==◌, cond, List, [], ◌∷◌, ◌++◌, map, refl, ap, ◌∙◌, sym, ◌⊎◌, inl, inr, arith}
use Rattle.std.specs.List.{AllByRecursion, count_by, list_any, list_all}
use Rattle.std.proofs.lemmas.List.Recursion.{is_count_by}
use Rattle.std.proofs.lemmas.Bool.{eqb-true, eq-eqb, and_parts}
use Rattle.rv_base.specs.declared.instr.Instr.{Instr}
use Rattle.rv_base.specs.declared.instr.Atomic.{Atomic}
use Rattle.rv_spec.specs.Words.{bits_of}
use Rattle.rv_spec.specs.Decode.{Encoding, rv32im_table, rv32a_table, opcode, funct3, funct7, rs2}
use Rattle.rv_decode.specs.Table.{FitsOneRow}

-- one of the tests by which a row chooses its words
data Test : Type 0 where
  on_opcode : ℕ → Test
  on_funct3 : ℕ → Test
  on_funct7 : ℕ → Test
  on_funct5 : ℕ → Test
  on_rs2 : ℕ → Test
  on_word : ℕ → Test

abbrev passes : Test → ℕ → Bool
passes (on_opcode v) w = opcode w == v
passes (on_funct3 v) w = funct3 w == v
passes (on_funct7 v) w = funct7 w == v
passes (on_funct5 v) w = bits_of 27 5 w == v
passes (on_rs2 v) w = rs2 w == v
passes (on_word v) w = w == v

-- a row by its tests: the first, and those after it
abbrev passes_also : Bool → List Test → ℕ → Bool
passes_also b [] w = b
passes_also b (t ∷ ts) w = passes_also (b && passes t w) ts w

record Key : Type 0 where
  first : Test
  others : List Test

abbrev fits : Key → ℕ → Bool
fits k w = passes_also (passes k.first w) k.others w

-- whether no word passes both tests
abbrev clash : Test → Test → Bool
clash (on_opcode a) (on_opcode b) = not (a == b)
clash (on_funct3 a) (on_funct3 b) = not (a == b)
clash (on_funct7 a) (on_funct7 b) = not (a == b)
clash (on_funct5 a) (on_funct5 b) = not (a == b)
clash (on_word a) (on_word b) = not (a == b)
clash (on_opcode a) (on_word b) = not (a == b % 2 ^ 7)
clash (on_word a) (on_opcode b) = not (a % 2 ^ 7 == b)
clash _ _ = false

differ : (x a b : ℕ) → not (a == b) ≡ true → (x == a) ≡ true → (x == b) ≡ true → ⊥
differ x a b c p q =
    let same : (a == b) ≡ true = eq-eqb a b (sym (eqb-true x a p) ∙ eqb-true x b q) in
    let bad : false ≡ true = ap not (sym same) ∙ c in
    absurd (cc)

clash-sound : (s t : Test) (w : ℕ) → clash s t ≡ true → passes s w ≡ true → passes t w ≡ true → ⊥
clash-sound (on_opcode a) (on_opcode b) w c p q = differ (opcode w) a b c p q
clash-sound (on_funct3 a) (on_funct3 b) w c p q = differ (funct3 w) a b c p q
clash-sound (on_funct7 a) (on_funct7 b) w c p q = differ (funct7 w) a b c p q
clash-sound (on_funct5 a) (on_funct5 b) w c p q = differ (bits_of 27 5 w) a b c p q
clash-sound (on_word a) (on_word b) w c p q = differ w a b c p q
clash-sound (on_opcode a) (on_word b) w c p q = differ (opcode w) a (b % 2 ^ 7) c p (eq-eqb (opcode w) (b % 2 ^ 7) (ap (λ (x : ℕ). x % 2 ^ 7) (eqb-true w b q)))
clash-sound (on_word a) (on_opcode b) w c p q = differ (opcode w) (a % 2 ^ 7) b c (eq-eqb (opcode w) (a % 2 ^ 7) (ap (λ (x : ℕ). x % 2 ^ 7) (eqb-true w a p))) q
clash-sound s t w c p q = absurd (cc)

abbrev AllPass : ℕ → List Test → Type 0
AllPass w ts = AllByRecursion (λ t. passes t w ≡ true) ts

passes_also-all : (b : Bool) (ts : List Test) (w : ℕ) → passes_also b ts w ≡ true → (b ≡ true) × AllPass w ts
passes_also-all b [] w e = (e, tt)
passes_also-all b (t ∷ ts) w e =
    let rest = passes_also-all (b && passes t w) ts w e in
    let both = and_parts b (passes t w) rest.0 in
    (both.0, (both.1, rest.1))

abbrev tests : Key → List Test
tests k = k.first ∷ k.others

fits-all : (k : Key) (w : ℕ) → fits k w ≡ true → AllPass w (tests k)
fits-all k w e = passes_also-all (passes k.first w) k.others w e

abbrev clashes : List Test → List Test → Bool
clashes xs ys = list_any (λ s. list_any (λ t. clash s t) ys) xs

or-cases : (a b : Bool) → (a || b) ≡ true → (a ≡ true) ⊎ (b ≡ true)
or-cases true b e = inl refl
or-cases false b e = inr e

one-clashes : (s : Test) (ts : List Test) (w : ℕ) → list_any (λ t. clash s t) ts ≡ true → passes s w ≡ true → AllPass w ts → ⊥
one-clashes s [] w c p all = absurd (cc)
one-clashes s (t ∷ ts) w c p all =
    elim (or-cases (clash s t) (list_any (λ t. clash s t) ts) c) [ inl here ↦ clash-sound s t w here p all.0 | inr later ↦ one-clashes s ts w later p all.1 ]

clashes-sound : (xs ys : List Test) (w : ℕ) → clashes xs ys ≡ true → AllPass w xs → AllPass w ys → ⊥
clashes-sound [] ys w c p q = absurd (cc)
clashes-sound (s ∷ xs) ys w c p q =
    elim (or-cases (list_any (λ t. clash s t) ys) (clashes xs ys) c) [ inl here ↦ one-clashes s ys w here p.0 q | inr later ↦ clashes-sound xs ys w later p.1 q ]

-- whether each two rows clash
abbrev are_apart : List Key → Bool
are_apart [] = true
are_apart (k ∷ ks) = list_all (λ j. clashes (tests k) (tests j)) ks && are_apart ks

abbrev passing : {A : Type 0} → (A → Bool) → List A → ℕ
passing p [] = 0
passing p (x ∷ xs) = cond (p x) (1 + passing p xs) (passing p xs)

abbrev count : List Key → ℕ → ℕ
count ks w = passing (λ k. fits k w) ks

no-other : (k : Key) (ks : List Key) (w : ℕ) → fits k w ≡ true → list_all (λ j. clashes (tests k) (tests j)) ks ≡ true → count ks w ≡ 0
no-other k [] w here apart = refl
no-other k (j ∷ js) w here apart =
    let both = and_parts (clashes (tests k) (tests j)) (list_all (λ i. clashes (tests k) (tests i)) js) apart in
    by-test (fits j w) refl both.0 (no-other k js w here both.1)
  where
    by-test : (b : Bool) → fits j w ≡ b → clashes (tests k) (tests j) ≡ true → count js w ≡ 0 → count (j ∷ js) w ≡ 0
    by-test true e c none = absurd (clashes-sound (tests k) (tests j) w c (fits-all k w here) (fits-all j w e))
    by-test false e c none = rw e none

one-fits : (ks : List Key) (w : ℕ) → are_apart ks ≡ true → count ks w ≤ 1
one-fits [] w apart = omega arith
one-fits (k ∷ ks) w apart =
    let both = and_parts (list_all (λ j. clashes (tests k) (tests j)) ks) (are_apart ks) apart in
    by-test (fits k w) refl both.0 (one-fits ks w both.1)
  where
    by-test : (b : Bool) → fits k w ≡ b → list_all (λ j. clashes (tests k) (tests j)) ks ≡ true → count ks w ≤ 1 → count (k ∷ ks) w ≤ 1
    by-test true e c few = let none : count ks w ≡ 0 = no-other k ks w e c in rw (e, none) (omega arith)
    by-test false e c few = rw e few

-- ---- rows by their keys

counted : {A : Type 0} (rows : List (Encoding A)) (ks : List Key) (w : ℕ) → map (λ (r : Encoding A). r.matches) rows ≡ map fits ks → count_by (λ r. r.matches w) rows ≡ count ks w
counted {A} rows ks w same =
    sym (is_count_by (passing (λ r. r.matches w)) (λ (r : Encoding A). r.matches w) refl (λ x xs. refl) rows)
    ∙ (by-map (λ (r : Encoding A). r.matches) rows ∙ (ap (passing (λ (f : ℕ → Bool). f w)) same ∙ sym (by-map fits ks)))
  where
    by-map : {B : Type 0} (f : B → ℕ → Bool) (xs : List B) → passing (λ x. f x w) xs ≡ passing (λ (g : ℕ → Bool). g w) (map f xs)
    by-map f [] = refl
    by-map f (x ∷ xs) = ap (λ (n : ℕ). cond (f x w) (1 + n) n) (by-map f xs)

opcode_key : ℕ → Key
opcode_key o = record { first = on_opcode o; others = [] }

funct3_key : ℕ → ℕ → Key
funct3_key o f = record { first = on_opcode o; others = on_funct3 f ∷ [] }

funct7_key : ℕ → ℕ → ℕ → Key
funct7_key o g f = record { first = on_opcode o; others = on_funct3 f ∷ on_funct7 g ∷ [] }

word_key : ℕ → Key
word_key v = record { first = on_word v; others = [] }

amo_key : ℕ → Key
amo_key f = record { first = on_opcode 0x2F; others = on_funct3 2 ∷ on_funct5 f ∷ [] }

rv32im_keys : List Key
rv32im_keys =
    map opcode_key (0x37 ∷ 0x17 ∷ 0x6F ∷ [])
    ++ (funct3_key 0x67 0 ∷ [])
    ++ map (funct3_key 0x63) (0 ∷ 1 ∷ 4 ∷ 5 ∷ 6 ∷ 7 ∷ [])
    ++ map (funct3_key 0x03) (0 ∷ 1 ∷ 2 ∷ 4 ∷ 5 ∷ [])
    ++ map (funct3_key 0x23) (0 ∷ 1 ∷ 2 ∷ [])
    ++ map (funct3_key 0x13) (0 ∷ 2 ∷ 3 ∷ 4 ∷ 6 ∷ 7 ∷ [])
    ++ map (funct7_key 0x13 0x00) (1 ∷ 5 ∷ [])
    ++ map (funct7_key 0x13 0x20) (5 ∷ [])
    ++ map (funct7_key 0x33 0x00) (0 ∷ 1 ∷ 2 ∷ 3 ∷ 4 ∷ 5 ∷ 6 ∷ 7 ∷ [])
    ++ map (funct7_key 0x33 0x20) (0 ∷ 5 ∷ [])
    ++ map (funct7_key 0x33 0x01) (0 ∷ 1 ∷ 2 ∷ 3 ∷ 4 ∷ 5 ∷ 6 ∷ 7 ∷ [])
    ++ (funct3_key 0x0F 0 ∷ [])
    ++ map word_key (0x00000073 ∷ 0x00100073 ∷ [])

rv32a_keys : List Key
rv32a_keys =
    record { first = on_opcode 0x2F; others = on_funct3 2 ∷ on_funct5 0x02 ∷ on_rs2 0 ∷ [] }
    ∷ map amo_key (0x03 ∷ 0x01 ∷ 0x00 ∷ 0x04 ∷ 0x0C ∷ 0x08 ∷ 0x10 ∷ 0x14 ∷ 0x18 ∷ 0x1C ∷ [])

rv32im_keys-match : map (λ (r : Encoding Instr). r.matches) rv32im_table ≡ map fits rv32im_keys
unfolding rv32im_table rv32im_keys opcode_key funct3_key funct7_key word_key
rv32im_keys-match = refl

rv32a_keys-match : map (λ (r : Encoding Atomic). r.matches) rv32a_table ≡ map fits rv32a_keys
unfolding rv32a_table rv32a_keys amo_key
rv32a_keys-match = refl

rv32im-apart : are_apart rv32im_keys ≡ true
unfolding rv32im_keys opcode_key funct3_key funct7_key word_key
rv32im-apart = refl

rv32a-apart : are_apart rv32a_keys ≡ true
unfolding rv32a_keys amo_key
rv32a-apart = refl

pub rv32im-one_row : (w : ℕ) → FitsOneRow rv32im_table w
rv32im-one_row w = rw (counted rv32im_table rv32im_keys w rv32im_keys-match) (one-fits rv32im_keys w rv32im-apart)

pub rv32a-one_row : (w : ℕ) → FitsOneRow rv32a_table w
rv32a-one_row w = rw (counted rv32a_table rv32a_keys w rv32a_keys-match) (one-fits rv32a_keys w rv32a-apart)
