-- Lists of bytes.
use Rattle.std.proofs.Common.{ℕ, zero, suc, ◌^◌, ◌<◌, List, [], ◌∷◌, ◌++◌, get_or, take, drop, arith}
use Rattle.rv_spec.specs.Words.{AreBytes}

-- bytes are told index by index
pub bytes-are : (bytes : List ℕ) → ((i : ℕ) → get_or bytes i 0 < 2 ^ 8) → AreBytes bytes
bytes-are [] fits = tt
bytes-are (b ∷ bytes) fits = (fits 0, bytes-are bytes (λ i. fits (suc i)))

pub byte-fits : (bytes : List ℕ) (i : ℕ) → AreBytes bytes → get_or bytes i 0 < 2 ^ 8
byte-fits [] i h = omega arith
byte-fits (b ∷ bytes) zero h = h.0
byte-fits (b ∷ bytes) (suc i) h = byte-fits bytes i h.1

pub take-bytes : (k : ℕ) (xs : List ℕ) → AreBytes xs → AreBytes (take k xs)
take-bytes zero xs h = tt
take-bytes (suc k) [] h = tt
take-bytes (suc k) (x ∷ xs) h = (h.0, take-bytes k xs h.1)

pub drop-bytes : (k : ℕ) (xs : List ℕ) → AreBytes xs → AreBytes (drop k xs)
drop-bytes zero xs h = h
drop-bytes (suc k) [] h = tt
drop-bytes (suc k) (x ∷ xs) h = drop-bytes k xs h.1

pub append-bytes : (xs ys : List ℕ) → AreBytes xs → AreBytes ys → AreBytes (xs ++ ys)
append-bytes [] ys h k = k
append-bytes (x ∷ xs) ys h k = (h.0, append-bytes xs ys h.1 k)
