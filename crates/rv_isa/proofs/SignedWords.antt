-- Operations on signed numbers give words.
use Rattle.std.proofs.Common.{◌≡◌, ℕ, zero, suc, ℤ, pos, negsuc, ◌-◌, ◌*◌, ◌/◌, ◌%◌, ◌^◌, ◌<◌, ◌≤◌, Bool, true, false, cond, nat_lt, refl, sym, subst, arith}
use Rattle.std.specs.Prelude.{◌*ℤ◌, neg_ℤ, unsigned_abs, int_div, int_rem}
use Rattle.std.specs.Int.{w32, cast_unsigned, int_shr}
use Rattle.std.proofs.Math.Nat.{div-le_self, mod-le}
use Rattle.std.proofs.lemmas.Nat.{mul-lt}
use Rattle.std.proofs.lemmas.Bool.{ltb-false, ltb-true}
use Rattle.std.proofs.lemmas.Int.{of_z-to_z, unsigned_abs-mul}
use Rattle.rv_spec.specs.Words.{sign_extend}
use Rattle.rv_spec.specs.Arithmetic.{signed, unsigned, high_word}
use Rattle.rv_isa.proofs.WordRanges.{IsWord}

pub word-of-number : (z : ℤ) → unsigned_abs z < 2 ^ 32 → IsWord (unsigned z)
word-of-number (pos n) h = h
word-of-number (negsuc n) h = omega arith

pub high-of-number : (z : ℤ) → unsigned_abs z < 2 ^ 64 → IsWord (high_word z)
high-of-number (pos n) h = omega arith
high-of-number (negsuc n) h = omega arith

-- the size of a word as a signed number
signed-size : (a : ℕ) → IsWord a → unsigned_abs (signed a) ≤ 2 ^ 31
signed-size a h = go (nat_lt a (2 ^ 31)) refl
  where
    go : (b : Bool) → nat_lt a (2 ^ 31) ≡ b → unsigned_abs (cond b (pos a) (negsuc (2 ^ 32 - suc a))) ≤ 2 ^ 31
    go true e = omega (arith, ltb-true a (2 ^ 31) e)
    go false e = omega (arith, ltb-false a (2 ^ 31) e)

abs-neg : (n : ℕ) → unsigned_abs (neg_ℤ (pos n)) ≡ n
abs-neg zero = refl
abs-neg (suc n) = refl

div-size : (z d : ℤ) → unsigned_abs (int_div z d) ≤ unsigned_abs z
div-size (pos a) (pos b) = div-le_self a b
div-size (pos a) (negsuc b) = omega (arith, abs-neg (a / suc b), div-le_self a (suc b))
div-size (negsuc a) (pos b) = omega (arith, abs-neg (suc a / b), div-le_self (suc a) b)
div-size (negsuc a) (negsuc b) = div-le_self (suc a) (suc b)

rem-size : (z d : ℤ) → unsigned_abs (int_rem z d) ≤ unsigned_abs z
rem-size (pos a) d = mod-le a (unsigned_abs d)
rem-size (negsuc a) d = omega (arith, abs-neg (suc a % unsigned_abs d), mod-le (suc a) (unsigned_abs d))

shr-size : (z : ℤ) (k : ℕ) → unsigned_abs (int_shr z k) ≤ unsigned_abs z
shr-size (pos a) k = div-le_self a (2 ^ k)
shr-size (negsuc a) k = omega (arith, div-le_self a (2 ^ k))

pub div-fits : (a b : ℕ) → IsWord a → IsWord (unsigned (int_div (signed a) (signed b)))
div-fits a b h = word-of-number (int_div (signed a) (signed b)) (omega (arith, div-size (signed a) (signed b), signed-size a h))

pub rem-fits : (a b : ℕ) → IsWord a → IsWord (unsigned (int_rem (signed a) (signed b)))
rem-fits a b h = word-of-number (int_rem (signed a) (signed b)) (omega (arith, rem-size (signed a) (signed b), signed-size a h))

pub shr-fits : (a k : ℕ) → IsWord a → IsWord (unsigned (int_shr (signed a) k))
shr-fits a k h = word-of-number (int_shr (signed a) k) (omega (arith, shr-size (signed a) k, signed-size a h))

pub high-fits : (x y : ℤ) → unsigned_abs x ≤ 2 ^ 31 → unsigned_abs y < 2 ^ 32 → IsWord (high_word (x *ℤ y))
high-fits x y h k =
    let product : unsigned_abs x * unsigned_abs y < 2 ^ 32 * 2 ^ 32 = mul-lt (unsigned_abs x) (unsigned_abs y) (2 ^ 32) (2 ^ 32) (omega arith) k in
    high-of-number (x *ℤ y) (subst (λ n. n < 2 ^ 64) (sym (unsigned_abs-mul x y)) product)

pub signed-high-fits : (a b : ℕ) → IsWord a → IsWord b → IsWord (high_word (signed a *ℤ signed b))
signed-high-fits a b h k = high-fits (signed a) (signed b) (signed-size a h) (omega (arith, signed-size b k))

pub mixed-high-fits : (a b : ℕ) → IsWord a → IsWord b → IsWord (high_word (signed a *ℤ pos b))
mixed-high-fits a b h k = high-fits (signed a) (pos b) (signed-size a h) k

-- a number with its sign extended
pub extended-fits : (k n : ℕ) → IsWord n → IsWord (cast_unsigned w32 (sign_extend k n))
extended-fits k n h = go (nat_lt n (2 ^ (k - 1)))
  where
    go : (b : Bool) → IsWord (cast_unsigned w32 (cond b (pos n) (negsuc (2 ^ k - 1 - n))))
    go true = h
    go false = omega arith

-- one of two words as signed numbers
pub choice-fits : (b : Bool) (x y : ℕ) → IsWord x → IsWord y → IsWord (unsigned (cond b (signed x) (signed y)))
choice-fits true x y p q = subst IsWord (sym (of_z-to_z w32 x p)) p
choice-fits false x y p q = subst IsWord (sym (of_z-to_z w32 y q)) q
