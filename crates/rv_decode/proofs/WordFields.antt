-- The fields of a word, and immediates in two's complement.
use Rattle.std.proofs.Common.{◌≡◌, ℕ, zero, suc, ◌+◌, ◌-◌, ◌*◌, ◌%◌, ◌^◌, ◌<◌, ◌≤◌, Bool, true, false, ℤ, pos, negsuc, ◌+ℤ◌, refl, ap, ◌∙◌, sym, arith}
use Rattle.std.specs.Prelude.{nat_lt, neg_ℤ, int_rem}
use Rattle.std.specs.Int.{w32, cast_unsigned}
use Rattle.std.proofs.lemmas.Bool.{ltb-true, ltb-false, lt-ltb, le-ltb}
use Rattle.std.proofs.lemmas.Int.{ints}
use Rattle.std.proofs.lemmas.Nat.{pow-add, pow_pos, mod-mul-add}
use Rattle.rv_spec.specs.Words.{bits_of, sign_extend}
use Rattle.rv_spec.specs.Decode.{opcode, rd, funct3, rs1, rs2, funct7, imm_u}
use Rattle.rv_decode.specs.Encoding.{r_type, u_type}
use Rattle.rv_decode.specs.Ranges.{IsSigned}

-- ---- the six fields

pub record HasFields (w o d f a b g : ℕ) : Type 0 where
  pub opcode_is : opcode w ≡ o
  pub rd_is : rd w ≡ d
  pub funct3_is : funct3 w ≡ f
  pub rs1_is : rs1 w ≡ a
  pub rs2_is : rs2 w ≡ b
  pub funct7_is : funct7 w ≡ g

pub r_type-fields : (o d f a b g : ℕ) → o < 2 ^ 7 → d < 2 ^ 5 → f < 2 ^ 3 → a < 2 ^ 5 → b < 2 ^ 5 → g < 2 ^ 7 → HasFields (r_type o d f a b g) o d f a b g
r_type-fields o d f a b g ho hd hf ha hb hg = record {
  opcode_is = omega arith;
  rd_is = omega arith;
  funct3_is = omega arith;
  rs1_is = omega arith;
  rs2_is = omega arith;
  funct7_is = omega arith;
}

pub r_type-own : (w : ℕ) → w < 2 ^ 32 → r_type (opcode w) (rd w) (funct3 w) (rs1 w) (rs2 w) (funct7 w) ≡ w
r_type-own w h = omega arith

-- ---- the parts of an immediate n, in the fields of a word and back

pub i-bits : (w n : ℕ) → rs2 w ≡ n % 2 ^ 5 → funct7 w ≡ bits_of 5 7 n → bits_of 20 12 w ≡ n % 2 ^ 12
i-bits w n low high = omega arith

pub s-bits : (w n : ℕ) → rd w ≡ n % 2 ^ 5 → funct7 w ≡ bits_of 5 7 n → bits_of 25 7 w * 2 ^ 5 + bits_of 7 5 w ≡ n % 2 ^ 12
s-bits w n low high = omega arith

abbrev pub b_number : ℕ → ℕ
b_number w = bits_of 31 1 w * 2 ^ 12 + bits_of 7 1 w * 2 ^ 11 + bits_of 25 6 w * 2 ^ 5 + bits_of 8 4 w * 2

pub b-bits : (w n : ℕ) → rd w ≡ bits_of 1 4 n * 2 + bits_of 11 1 n → funct7 w ≡ bits_of 12 1 n * 2 ^ 6 + bits_of 5 6 n → n % 2 ≡ 0 → b_number w ≡ n % 2 ^ 13
b-bits w n low high even = omega arith

abbrev pub j_number : ℕ → ℕ
j_number w = bits_of 31 1 w * 2 ^ 20 + bits_of 12 8 w * 2 ^ 12 + bits_of 20 1 w * 2 ^ 11 + bits_of 21 10 w * 2

abbrev pub j_word : ℕ → ℕ → ℕ → ℕ
j_word o d n = o + d * 2 ^ 7 + bits_of 12 8 n * 2 ^ 12 + bits_of 11 1 n * 2 ^ 20 + bits_of 1 10 n * 2 ^ 21 + bits_of 20 1 n * 2 ^ 31

pub record JumpFields (w o d n : ℕ) : Type 0 where
  pub opcode_is : opcode w ≡ o
  pub rd_is : rd w ≡ d
  pub number_is : j_number w ≡ n % 2 ^ 21

pub j-fields : (o d n : ℕ) → o < 2 ^ 7 → d < 2 ^ 5 → n % 2 ≡ 0 → JumpFields (j_word o d n) o d n
j-fields o d n ho hd even = record { opcode_is = omega arith; rd_is = omega arith; number_is = omega arith }

pub record UpperFields (w o d n : ℕ) : Type 0 where
  pub opcode_is : opcode w ≡ o
  pub rd_is : rd w ≡ d
  pub upper_is : imm_u w ≡ n

pub u-fields : (o d n : ℕ) → o < 2 ^ 7 → d < 2 ^ 5 → n < 2 ^ 32 → n % 2 ^ 12 ≡ 0 → UpperFields (u_type o d n) o d n
u-fields o d n ho hd small low = record { opcode_is = omega arith; rd_is = omega arith; upper_is = omega arith }

pub i-own : (w n : ℕ) → w < 2 ^ 32 → n % 2 ^ 12 ≡ bits_of 20 12 w → r_type (opcode w) (rd w) (funct3 w) (rs1 w) (n % 2 ^ 5) (bits_of 5 7 n) ≡ w
i-own w n h e = omega arith

pub s-own : (w n : ℕ) → w < 2 ^ 32 → n % 2 ^ 12 ≡ bits_of 25 7 w * 2 ^ 5 + bits_of 7 5 w → r_type (opcode w) (n % 2 ^ 5) (funct3 w) (rs1 w) (rs2 w) (bits_of 5 7 n) ≡ w
s-own w n h e = omega arith

pub b-own : (w n : ℕ) → w < 2 ^ 32 → n % 2 ^ 13 ≡ b_number w → r_type (opcode w) (bits_of 1 4 n * 2 + bits_of 11 1 n) (funct3 w) (rs1 w) (rs2 w) (bits_of 12 1 n * 2 ^ 6 + bits_of 5 6 n) ≡ w
b-own w n h e = omega arith

pub u-own : (w : ℕ) → w < 2 ^ 32 → u_type (opcode w) (rd w) (imm_u w) ≡ w
u-own w h = omega arith

pub j-own : (w n : ℕ) → w < 2 ^ 32 → n % 2 ^ 21 ≡ j_number w → j_word (opcode w) (rd w) n ≡ w
j-own w n h e = omega arith

-- ---- numbers in two's complement

extend-low : (k n : ℕ) → n < 2 ^ (k - 1) → sign_extend k n ≡ pos n
extend-low k n h = rw (lt-ltb n (2 ^ (k - 1)) h) refl

extend-high : (k n : ℕ) → 2 ^ (k - 1) ≤ n → sign_extend k n ≡ negsuc (2 ^ k - 1 - n)
extend-high k n h = rw (le-ltb n (2 ^ (k - 1)) h) refl

twice : (k : ℕ) → 0 < k → 2 ^ k ≡ 2 * 2 ^ (k - 1)
twice k h = (let e : k ≡ 1 + (k - 1) = omega arith in ap (λ (j : ℕ). 2 ^ j) e) ∙ pow-add 2 1 (k - 1)

-- 2 ^ 32 is a multiple of 2 ^ k, and not 0
multiple : (k : ℕ) → k ≤ 32 → (2 ^ (32 - k) - 1) * 2 ^ k + 2 ^ k ≡ 2 ^ 32
multiple k h =
    let whole : 2 ^ (32 - k) * 2 ^ k ≡ 2 ^ 32 = sym (pow-add 2 (32 - k) k) ∙ (let e : 32 - k + k ≡ 32 = omega arith in ap (λ (j : ℕ). 2 ^ j) e) in
    let some : 2 ^ (32 - k) ≡ 2 ^ (32 - k) - 1 + 1 = omega (arith, pow_pos (32 - k)) in
    one-less (2 ^ (32 - k)) (2 ^ (32 - k) - 1) (2 ^ k) some whole
  where
    one-less : (q r p : ℕ) → q ≡ r + 1 → q * p ≡ 2 ^ 32 → r * p + p ≡ 2 ^ 32
    one-less q r p e whole = (let m : (r + 1) * p ≡ r * p + p = omega arith in sym m) ∙ (ap (λ (x : ℕ). x * p) (sym e) ∙ whole)

small-mod : (n p : ℕ) → n < p → n % p ≡ n
small-mod n p h = (let e : n ≡ 0 * p + n = omega arith in ap (λ (x : ℕ). x % p) e) ∙ mod-mul-add 0 p n h

-- the number of k bits whose difference from 2 ^ k is m + 1
complement : (k m : ℕ) → k ≤ 32 → m < 2 ^ k → (2 ^ 32 - suc m) % 2 ^ k ≡ 2 ^ k - suc m
complement k m high h =
    let e : 2 ^ 32 - suc m ≡ (2 ^ (32 - k) - 1) * 2 ^ k + (2 ^ k - suc m) = omega (arith, multiple k high) in
    ap (λ (x : ℕ). x % 2 ^ k) e ∙ mod-mul-add (2 ^ (32 - k) - 1) (2 ^ k) (2 ^ k - suc m) (omega arith)

pub extend-cut : (k n : ℕ) → k ≤ 32 → n < 2 ^ k → cast_unsigned w32 (sign_extend k n) % 2 ^ k ≡ n
extend-cut k n high small = by-half (nat_lt n (2 ^ (k - 1))) refl
  where
    by-half : (b : Bool) → nat_lt n (2 ^ (k - 1)) ≡ b → cast_unsigned w32 (sign_extend k n) % 2 ^ k ≡ n
    by-half true e = rw (extend-low k n (ltb-true n (2 ^ (k - 1)) e)) (small-mod n (2 ^ k) small)
    by-half false e =
        let back : 2 ^ k - suc (2 ^ k - 1 - n) ≡ n = omega arith in
        let below : 2 ^ k - 1 - n < 2 ^ k = omega arith in
        rw (extend-high k n (ltb-false n (2 ^ (k - 1)) e)) (complement k (2 ^ k - 1 - n) high below ∙ back)

pub extend-signed : (k n : ℕ) → 0 < k → n < 2 ^ k → IsSigned k (sign_extend k n)
extend-signed k n low small = by-half (nat_lt n (2 ^ (k - 1))) refl
  where
    by-half : (b : Bool) → nat_lt n (2 ^ (k - 1)) ≡ b → IsSigned k (sign_extend k n)
    by-half true e = let h = ltb-true n (2 ^ (k - 1)) e in rw (extend-low k n h) (omega (arith, ints), omega (arith, ints))
    by-half false e =
        let h = ltb-false n (2 ^ (k - 1)) e in
        let t = twice k low in
        rw (extend-high k n h) (omega (arith, ints), omega (arith, ints))

pub cut-extend : (k : ℕ) (z : ℤ) → 0 < k → k ≤ 32 → IsSigned k z → sign_extend k (cast_unsigned w32 z % 2 ^ k) ≡ z
cut-extend k (pos m) low high signed =
    let h : m < 2 ^ (k - 1) = omega (arith, ints) in
    let below : m < 2 ^ k = omega (arith, twice k low) in
    rw (small-mod m (2 ^ k) below) (extend-low k m h)
cut-extend k (negsuc m) low high signed =
    let h : m < 2 ^ (k - 1) = omega (arith, ints) in
    let t = twice k low in
    let below : m < 2 ^ k = omega arith in
    let upper : 2 ^ (k - 1) ≤ 2 ^ k - suc m = omega arith in
    let back : 2 ^ k - 1 - (2 ^ k - suc m) ≡ m = omega arith in
    rw (complement k m high below) (extend-high k (2 ^ k - suc m) upper ∙ ap negsuc back)

-- parity is kept
pub extend-even : (k n : ℕ) → 0 < k → n < 2 ^ k → n % 2 ≡ 0 → int_rem (sign_extend k n) (pos 2) ≡ pos 0
extend-even k n low small even = by-half (nat_lt n (2 ^ (k - 1))) refl
  where
    by-half : (b : Bool) → nat_lt n (2 ^ (k - 1)) ≡ b → int_rem (sign_extend k n) (pos 2) ≡ pos 0
    by-half true e = rw (extend-low k n (ltb-true n (2 ^ (k - 1)) e)) (ap pos even)
    by-half false e =
        let t = twice k low in
        let rest : suc (2 ^ k - 1 - n) % 2 ≡ 0 = omega arith in
        rw (extend-high k n (ltb-false n (2 ^ (k - 1)) e)) (ap (λ (x : ℕ). neg_ℤ (pos x)) rest)

pub cast-even : (z : ℤ) → int_rem z (pos 2) ≡ pos 0 → cast_unsigned w32 z % 2 ≡ 0
cast-even (pos n) even = let h : n % 2 ≡ 0 = cc in h
cast-even (negsuc n) even = let h = neg-zero (suc n % 2) even in omega arith
  where
    neg-zero : (a : ℕ) → neg_ℤ (pos a) ≡ pos 0 → a ≡ 0
    neg-zero zero e = refl
    neg-zero (suc a) e = absurd (cc)

pub plus-zero : (z : ℤ) → z +ℤ pos 0 ≡ z
plus-zero z = omega (arith, ints)
