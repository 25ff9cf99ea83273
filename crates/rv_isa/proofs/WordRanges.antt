-- What registers and memory hold is a word: below 2 ^ 32.
use Rattle.std.proofs.Common.{ℕ, ℤ, zero, suc, ◌+◌, ◌-◌, ◌*◌, ◌^◌, ◌<◌, mod-lt, lit<, Bool, true, false, cond, ◌==◌, List, [], ◌∷◌, slice_index, arith}
use Rattle.std.specs.List.{AllByRecursion}
use Rattle.std.specs.Int.{w32, from_le_bytes, cast_unsigned}
use Rattle.rv_spec.specs.Words.{Memory, byte, bytes_from, word, plus}
use Rattle.rv_spec.specs.Step.{State, register}
use Rattle.rv_rules.specs.Agreement.{IsState}

abbrev pub IsWord : ℕ → Type 0
IsWord n = n < 2 ^ 32

-- an element of a list, or 0 past its end, is below what all elements are below
pub index-below : (n : ℕ) (xs : List ℕ) (k : ℕ) → 0 < n → AllByRecursion (λ x. x < n) xs → slice_index xs k < n
index-below n [] k some h = some
index-below n (x ∷ xs) zero some h = h.0
index-below n (x ∷ xs) (suc k) some h = index-below n xs k some h.1

pub either-fits : (b : Bool) (x y : ℕ) → IsWord x → IsWord y → IsWord (cond b x y)
either-fits true x y p q = p
either-fits false x y p q = q

pub register-fits : (s : State) (r : ℕ) → IsState s → IsWord (register s r)
register-fits s r is = either-fits (r == 0) 0 (slice_index s.registers (r - 1)) (omega arith) (index-below (2 ^ 32) s.registers (r - 1) (omega arith) is.registers)

-- the number that four bytes of memory spell
pub four-fit : (m : Memory) (a : ℕ) → ((x : ℕ) → byte m x < 2 ^ 8) → IsWord (from_le_bytes w32 (bytes_from m a 4))
four-fit m a fits = spell (byte m a) (byte m (a + 1)) (byte m (a + 1 + 1)) (byte m (a + 1 + 1 + 1)) (fits a) (fits (a + 1)) (fits (a + 1 + 1)) (fits (a + 1 + 1 + 1))
  where
    spell : (b0 b1 b2 b3 : ℕ) → b0 < 256 → b1 < 256 → b2 < 256 → b3 < 256 → b0 + b1 * 256 + b2 * 65536 + b3 * 16777216 < 2 ^ 32
    spell b0 b1 b2 b3 h0 h1 h2 h3 = omega arith

pub word-fits : (m : Memory) (w : ℕ) → ((x : ℕ) → byte m x < 2 ^ 8) → IsWord (word m w)
word-fits m w fits = four-fit m (4 * w) fits

-- an address at a signed distance
pub sum-fits : (a : ℕ) (z : ℤ) → plus a z < 2 ^ 32
sum-fits a z = mod-lt (a + cast_unsigned w32 z) (lit< tt)
