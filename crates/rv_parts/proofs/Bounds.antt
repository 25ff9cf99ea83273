-- Where parts begin.
use Rattle.std.proofs.Common.{◌≡◌, ℕ, ◌+◌, ◌-◌, ◌*◌, ◌/◌, ◌≤◌, ap, arith}
use Rattle.std.proofs.Math.Nat.{div-mul-le_self, div-le_of_le-mul}
use Rattle.std.proofs.lemmas.Nat.{le-div}
use Rattle.rv_parts.specs.Cutting.{first_of}

-- a later part begins no earlier
pub first-rises : (n parts p : ℕ) → 1 ≤ parts → first_of n parts p ≤ first_of n parts (p + 1)
first-rises n parts p some =
    let below : p * n / parts * parts ≤ p * n = div-mul-le_self (p * n) parts in
    let more : (p + 1) * n ≡ p * n + n = omega arith in
    le-div (p * n / parts) ((p + 1) * n) parts (omega (arith, some)) (omega (arith, below, more))

-- no part begins behind the last shard
pub first-within : (n parts p : ℕ) → 1 ≤ parts → p ≤ parts → first_of n parts p ≤ n
first-within n parts p some le = div-le_of_le-mul parts (mul-le n p parts le)
  where
    mul-le : (n p q : ℕ) → p ≤ q → p * n ≤ q * n
    mul-le n p q le =
        let d : q ≡ p + (q - p) = omega (arith, le) in
        let both : (p + (q - p)) * n ≡ p * n + (q - p) * n = grind arith in
        omega (arith, ap (λ k. k * n) d, both)

-- the first part begins at the first shard
pub first-zero : (n parts : ℕ) → first_of n parts 0 ≡ 0
first-zero n parts = let le : 0 / parts ≤ 0 = div-le_of_le-mul parts (omega arith) in omega (arith, le)

-- behind the last part no shard is left
pub first-end : (n parts : ℕ) → 1 ≤ parts → first_of n parts parts ≡ n
first-end n parts some =
    let above : n ≤ parts * n / parts = le-div n (parts * n) parts (omega (arith, some)) (let e : n * parts ≡ parts * n = grind arith in omega (arith, e)) in
    let below = first-within n parts parts some (omega arith) in
    omega (arith, above, below)
