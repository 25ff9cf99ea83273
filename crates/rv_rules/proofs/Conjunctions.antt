-- Tests joined by "and" and "or".
use Rattle.std.proofs.Common.{◌≡◌, Bool, true, false, ◌&&◌, ◌||◌, refl, sym, true≢false}

pub both-true : (a b : Bool) → a ≡ true → b ≡ true → (a && b) ≡ true
both-true true b p q = q
both-true false b p q = p

pub left-true : (a b : Bool) → (a && b) ≡ true → a ≡ true
left-true true b e = refl
left-true false b e = e

pub right-true : (a b : Bool) → (a && b) ≡ true → b ≡ true
right-true true b e = e
right-true false b e = absurd (true≢false (sym e))

pub left-false : (a b : Bool) → (a || b) ≡ false → a ≡ false
left-false true b e = e
left-false false b e = refl

pub right-false : (a b : Bool) → (a || b) ≡ false → b ≡ false
right-false true b e = absurd (true≢false e)
right-false false b e = e

pub and-true : (b : Bool) → (b && true) ≡ b
and-true true = refl
and-true false = refl

pub or-false : (b : Bool) → (b || false) ≡ b
or-false true = refl
or-false false = refl
