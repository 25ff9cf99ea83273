-- Numbers and registers as the disassembly writes them are read back.
use Rattle.std.proofs.Common.{◌≡◌, ℕ, zero, suc, ◌^◌, ◌<◌, ◌≤◌, ℤ, pos, negsuc, Bool, true, false, cond, not, ◌&&◌, ◌||◌, ◌==◌, nat_lt, List, [], ◌∷◌, length, get_or, slice_index, drop, Some, decimal, refl, ap, ◌∙◌, arith, ne_eqb}
use Rattle.std.specs.Char.{digit_value}
use Rattle.std.specs.Fmt.{signed_decimal}
use Rattle.std.specs.Int.{is_in_range}
use Rattle.std.specs.Str.Parse.{AllDigits}
use Rattle.std.proofs.lemmas.Bool.{lt-ltb, le-leb, ltb-true}
use Rattle.std.proofs.lemmas.Bool.Decides.{nat_tests}
use Rattle.std.proofs.lemmas.Fmt.{decimal_is_IsNumeral, digits_is_IsNumeral, decimal_nonempty, decimal_digit, first_decimal, length-decimal-le}
use Rattle.rv_text.specs.Syntax.{hex}
use Rattle.rv_text.proofs.Lemmas.{length-hex}
use Rattle.rv_asm.specs.Numbers.{are_digits, decimal_number, hexadecimal_number, magnitude, number, register}

all-digits : (base : ℕ) (ds : List ℕ) → AllDigits base ds → are_digits base ds ≡ true
all-digits base [] all = refl
all-digits base (c ∷ cs) all = rw (lt-ltb (digit_value c) base all.0) (all-digits base cs all.1)

in-range : (low high n : ℕ) → low ≤ n → n ≤ high → is_in_range low high n ≡ true
in-range low high n above below = rw (le-leb low n above, le-leb n high below) refl

or-right : (a b : Bool) → b ≡ true → (a || b) ≡ true
or-right true b h = refl
or-right false b h = h

-- a numeral begins with no zero, or is one digit
front : (n : ℕ) → n < 2 ^ 63 → (length (decimal n) == 1 || not (slice_index (decimal n) 0 == 48)) ≡ true
front n small = by-size (nat_lt n 10) refl
  where
    by-size : (b : Bool) → nat_lt n 10 ≡ b → (length (decimal n) == 1 || not (slice_index (decimal n) 0 == 48)) ≡ true
    by-size true less = rw (decimal_digit n (ltb-true n 10 less)) refl
    by-size false more =
        let many : 10 ≤ n = grind (arith, nat_tests) in
        let above : 48 < get_or (decimal n) 0 0 = first_decimal n (omega arith) (omega arith) in
        or-right _ _ (ap not (ne_eqb (get_or (decimal n) 0 0) 48 (λ e. let bad : ⊥ = omega arith in bad)))

pub decimal-read : (n : ℕ) → n < 2 ^ 63 → decimal_number (decimal n) ≡ Some n
decimal-read n small =
    let numeral = decimal_is_IsNumeral n (omega arith) in
    let some : 1 ≤ length (decimal n) = decimal_nonempty n (omega arith) in
    let few : length (decimal n) ≤ 20 = length-decimal-le 20 n (omega arith) (omega arith) (omega arith) in
    rw (in-range 1 20 (length (decimal n)) some few, all-digits 10 (decimal n) numeral.0.1, front n small, numeral.1) refl

-- no byte of a numeral is this one, which is no digit
no-digit : (ds : List ℕ) (k v : ℕ) → AllDigits 10 ds → digit_value v ≡ 36 → 0 < v → (slice_index ds k == v) ≡ false
no-digit [] k v all bad some = ne_eqb 0 v (λ e. let wrong : ⊥ = omega arith in wrong)
no-digit (c ∷ cs) zero v all bad some = ne_eqb c v (λ e. let same : digit_value c ≡ 36 = ap digit_value e ∙ bad in let wrong : ⊥ = omega (arith, all.0) in wrong)
no-digit (c ∷ cs) (suc k) v all bad some = no-digit cs k v all.1 bad some

-- x is a digit of no base up to 33
x-apart : (ds : List ℕ) → AllDigits 10 ds → (slice_index ds 1 == 120) ≡ false
x-apart [] all = refl
x-apart (c ∷ []) all = refl
x-apart (c ∷ d ∷ ds) all = ne_eqb d 120 (λ e. let same : digit_value d ≡ 33 = ap digit_value e in let wrong : ⊥ = omega (arith, all.1.0) in wrong)

abbrev pub number-small : ℤ → Type 0
number-small (pos n) = n < 2 ^ 63
number-small (negsuc n) = suc n < 2 ^ 63

pub magnitude-read : (n : ℕ) → n < 2 ^ 63 → magnitude (decimal n) ≡ Some n
unfolding magnitude
magnitude-read n small =
    let numeral = decimal_is_IsNumeral n (omega arith) in
    by-tests (slice_index (decimal n) 0 == 48) (slice_index (decimal n) 1 == 120) (x-apart (decimal n) numeral.0.1)
  where
    by-tests : (a b : Bool) → b ≡ false → cond (a && b) (hexadecimal_number (drop 2 (decimal n))) (decimal_number (decimal n)) ≡ Some n
    by-tests true b h = rw h (decimal-read n small)
    by-tests false b h = decimal-read n small

pub number-read : (z : ℤ) → number-small z → number (signed_decimal z) ≡ Some z
unfolding number
number-read (pos n) small =
    let numeral = decimal_is_IsNumeral n (omega arith) in
    rw (no-digit (decimal n) 0 45 numeral.0.1 refl (omega arith), magnitude-read n small) refl
number-read (negsuc n) small = rw (magnitude-read (suc n) small) refl

pub upper-read : (u : ℕ) → u < 2 ^ 20 → number (48 ∷ 120 ∷ hex u) ≡ Some (pos u)
unfolding number magnitude
upper-read u small =
    let numeral = digits_is_IsNumeral 16 false (omega arith) (omega arith) u (omega arith) in
    let few : length (hex u) ≤ 8 = length-hex 7 u (omega arith) (omega arith) in
    rw (in-range 1 8 (length (hex u)) numeral.0.0 few, all-digits 16 (hex u) numeral.0.1, numeral.1) refl

pub register-read : (r : ℕ) → r < 32 → register (120 ∷ decimal r) ≡ Some r
unfolding register
register-read r small = rw (decimal-read r (omega arith), lt-ltb r 32 small) refl
