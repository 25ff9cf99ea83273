-- The values of numerals, digit by digit.
use Rattle.std.proofs.Common.{◌≡◌, ℕ, ◌+◌, ◌*◌, ◌^◌, ◌<◌, ◌≤◌, List, length, get_or, take, arith}
use Rattle.std.proofs.Math.Nat.{pow-le-pow_right, mul-le-mul_left}
use Rattle.std.proofs.lemmas.Nat.{pow-add}
use Rattle.std.specs.Char.{digit_value}
use Rattle.std.specs.Str.Parse.{digits_value}
use Rattle.std.proofs.lemmas.Int.Digits.{digits_value_more}

-- a value that is less than 64 to the power of its digits, of which there are at most 20
pub below : (value i : ℕ) → value < 64 ^ i → i ≤ 20 → value < 2 ^ 120
below value i small few = let most : 64 ^ i ≤ 64 ^ 20 = pow-le-pow_right {n = 64} (omega arith) few in omega arith

pub next-below : (base value d i : ℕ) → base ≤ 16 → value < 64 ^ i → d ≤ 36 → value * base + d < 64 ^ (i + 1)
next-below base value d i small less digit =
    let product : value * base ≤ value * 16 = mul-le-mul_left value small in
    let power : 64 ^ (i + 1) ≡ 64 ^ i * 64 = pow-add 64 i 1 in
    omega arith

pub next-value : (base : ℕ) (ds : List ℕ) (i value d : ℕ) → i < length ds → value ≡ digits_value base (take i ds) → d ≡ digit_value (get_or ds i 0) → value * base + d ≡ digits_value base (take (i + 1) ds)
next-value base ds i value d within is digit = rw (digits_value_more base ds i within) (cc)
