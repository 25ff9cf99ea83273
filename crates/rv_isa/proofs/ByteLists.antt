-- Lists of bytes, and the bytes of a part of a word.
use Rattle.std.proofs.Common.{◌≡◌, ℕ, zero, suc, ◌+◌, ◌-◌, ◌^◌, ◌≤◌, List, ◌++◌, length, take, drop, replicate, ◌∙◌, ap, arith}
use Rattle.std.proofs.lemmas.List.{length-take, length-drop, length-append, length-replicate, drop-replicate}
use Rattle.std.proofs.lemmas.Nat.{le_bytes_4}
use Rattle.std.specs.Int.{w32, from_le_bytes, to_le_bytes}
use Rattle.rv_spec.specs.Words.{AreBytes}
use Rattle.rv_rules.proofs.Lemmas.{take-bytes, drop-bytes, append-bytes}
use Rattle.rv_isa.proofs.WordRanges.{index-below}

pub word-bytes : (v : ℕ) → AreBytes (to_le_bytes w32 v)
word-bytes v = (omega arith, (omega arith, (omega arith, (omega arith, tt))))

zero-bytes : (n : ℕ) → AreBytes (replicate n 0)
zero-bytes zero = tt
zero-bytes (suc n) = (omega arith, zero-bytes n)

-- the word of some bytes and zeros behind them
pub part-bytes : (word lane k r : ℕ) → lane + k ≤ 4 → r ≡ from_le_bytes w32 (take (lane + k - lane) (drop lane (to_le_bytes w32 word)) ++ drop {A = ℕ} k (replicate {A = ℕ} 4 0)) → to_le_bytes w32 r ≡ take k (drop lane (to_le_bytes w32 word)) ++ replicate (4 - k) 0
part-bytes word lane k r h e =
    let part : List ℕ = take k (drop lane (to_le_bytes w32 word)) in
    let bytes : AreBytes (part ++ replicate (4 - k) 0) = append-bytes part (replicate (4 - k) 0) (take-bytes k (drop lane (to_le_bytes w32 word)) (drop-bytes lane (to_le_bytes w32 word) (word-bytes word))) (zero-bytes (4 - k)) in
    let rest : length (drop lane (to_le_bytes w32 word)) ≡ 4 - lane = length-drop lane (to_le_bytes w32 word) in
    let count : length (part ++ replicate (4 - k) 0) ≡ 4 = omega (arith, length-append part (replicate (4 - k) 0), length-take k (drop lane (to_le_bytes w32 word)), rest, length-replicate {A = ℕ} (4 - k) 0) in
    let same : lane + k - lane ≡ k = omega arith in
    le_bytes_4 (part ++ replicate (4 - k) 0) r count (λ i. index-below (2 ^ 8) (part ++ replicate (4 - k) 0) i (omega arith) bytes)
    (e ∙ ap (λ n. from_le_bytes w32 (take n (drop lane (to_le_bytes w32 word)) ++ drop {A = ℕ} k (replicate {A = ℕ} 4 0))) same ∙ ap (λ l. from_le_bytes w32 (part ++ l)) (drop-replicate k 4 0))
