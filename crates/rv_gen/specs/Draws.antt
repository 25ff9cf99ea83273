-- Pseudo-random numbers by a linear congruential generator, and what is drawn in a row (this project's own; the constants are those of Numerical Recipes).
use Rattle.std.specs.Prelude.{ℕ, zero, suc, ◌+◌, ◌*◌, ◌/◌, ◌%◌, ◌^◌, List, [], ◌∷◌}

-- from a state, what is drawn and the state behind it
abbrev pub Draw : Type 0 → Type 0
Draw A = ℕ → A × ℕ

abbrev pub given : {A : Type 0} → A → Draw A
given a s = (a, s)

infixl 10 ◌>>=◌
unfoldable pub ◌>>=◌ : {A B : Type 0} → Draw A → (A → Draw B) → Draw B
(first >>= then) s = then (first s).0 (first s).1

abbrev pub next : ℕ → ℕ
next s = (s * 1664525 + 1013904223) % 2 ^ 32

-- a number below a bound
unfoldable pub draw : ℕ → Draw ℕ
draw bound s = (next s / 2 ^ 16 % bound, next s)

-- bytes
unfoldable pub bytes : ℕ → Draw (List ℕ)
bytes zero = given []
bytes (suc n) = do
  first ← draw 256
  others ← bytes n
  given (first ∷ others)
