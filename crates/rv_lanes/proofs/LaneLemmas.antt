-- Shifts, rotations and words of four lanes.
use Rattle.std.proofs.Common.{◌≡◌, ℕ, ◌<◌, ◌-◌, ◌*◌, ◌/◌, ◌%◌, ◌^◌, List, [], ◌∷◌, length, slice_index, bit_or, arith, refl, slice_index_or}
use Rattle.std.specs.Int.{w64, rotate_right}
use Rattle.std.specs.Simd.Lanes.{zip2}
use Rattle.std.proofs.Math.ListN.{get_or-map}
use Rattle.rv_lanes.specs.Lanes.{word_of, words_of}
use Rattle.rv_lanes.proofs.Cases.{below-four}

-- what holds of each list of four elements
pub four-lanes : (P : List ℕ → Type 0) → ((a b c d : ℕ) → P (a ∷ b ∷ c ∷ d ∷ [])) → (xs : List ℕ) → length xs ≡ 4 → P xs
four-lanes P p (a ∷ b ∷ c ∷ d ∷ []) h = p a b c d
four-lanes P p [] h = absurd (omega arith)
four-lanes P p (a ∷ []) h = absurd (omega arith)
four-lanes P p (a ∷ b ∷ []) h = absurd (omega arith)
four-lanes P p (a ∷ b ∷ c ∷ []) h = absurd (omega arith)
four-lanes P p (a ∷ b ∷ c ∷ d ∷ e ∷ xs) h = absurd (omega arith)

-- two shifts of each lane and an or are a rotation
abbrev Rotates : ℕ → List ℕ → Type 0
Rotates k a = (j : ℕ) → j < 4
    → slice_index (zip2 bit_or
    (zip2 (λ x n. x / 2 ^ n) a (k ∷ k ∷ k ∷ k ∷ []))
    (zip2 (λ x n. x * 2 ^ n % 2 ^ 64) a ((64 - k) ∷ (64 - k) ∷ (64 - k) ∷ (64 - k) ∷ []))) j
    ≡ rotate_right w64 (slice_index a j) k

one-rotates : (k : ℕ) → 0 < k → k < 64 → (n : ℕ) → bit_or (n / 2 ^ k) (n * 2 ^ (64 - k) % 2 ^ 64) ≡ rotate_right w64 n k
one-rotates k low high n =
    let right : k ≡ k % 64 = omega arith in
    let left : 64 - k ≡ (64 - k % 64) % 64 = omega arith in
    λ i. bit_or (n / 2 ^ right i) (n * 2 ^ left i % 2 ^ 64)

pub shifts-rotate : (k : ℕ) → 0 < k → k < 64 → (a : List ℕ) → length a ≡ 4 → Rotates k a
shifts-rotate k low high =
    let one = one-rotates k low high in
    four-lanes (λ a. Rotates k a) (λ a0 a1 a2 a3. below-four _ (one a0) (one a1) (one a2) (one a3))

-- a shift of each lane
abbrev Shifts : ℕ → List ℕ → Type 0
Shifts k a = (j : ℕ) → j < 4 → slice_index (zip2 (λ x n. x / 2 ^ n) a (k ∷ k ∷ k ∷ k ∷ [])) j ≡ slice_index a j / 2 ^ k

pub shifts : (k : ℕ) (a : List ℕ) → length a ≡ 4 → Shifts k a
shifts k = four-lanes (λ a. Shifts k a) (λ a0 a1 a2 a3. below-four _ refl refl refl refl)

-- a word of a message is the lane of the vector there
pub word-there : (j : ℕ) (w : List (List ℕ)) (k : ℕ) → slice_index (words_of j w) k ≡ slice_index (slice_index_or w k []) j
word-there j w k = get_or-map (word_of j) w k []
