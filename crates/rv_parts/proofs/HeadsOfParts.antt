-- The heads of the parts that a record is cut into.
use Rattle.std.proofs.Common.{◌≡◌, ℕ, ◌+◌, ◌*◌, ◌/◌, ◌≤◌, refl, arith}
use Rattle.std.proofs.Math.Nat.{div-mul-le_self}
use Rattle.std.proofs.lemmas.Nat.{le-div}
use Rattle.rv_parts.specs.Cutting.{first_of}
use Rattle.rv_parts.specs.Joining.{HeadsCover}
use Rattle.rv_parts.proofs.Bounds.{first-end, first-rises, first-zero}

-- where there are no more parts than shards, each has one at least
has-some : (n parts p : ℕ) → 1 ≤ parts → parts ≤ n → first_of n parts p + 1 ≤ first_of n parts (p + 1)
has-some n parts p some few =
    let below : p * n / parts * parts ≤ p * n = div-mul-le_self (p * n) parts in
    let more : (p + 1) * n ≡ p * n + n = grind arith in
    let next : (p * n / parts + 1) * parts ≡ p * n / parts * parts + parts = grind arith in
    le-div (p * n / parts + 1) ((p + 1) * n) parts (omega (arith, some)) (omega (arith, below, more, next, few))

pub heads-cover : HeadsCover
heads-cover n parts some few =
    (first-zero n parts, λ p lt. (record { number = refl; parts = refl; first = refl; some = omega (arith, has-some n parts p some few) }, omega (arith, first-rises n parts p some)), first-end n parts some)
