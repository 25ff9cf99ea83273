-- Fields written one after another: what stands before a place, and the next field behind it.
use Rattle.std.proofs.Common.{◌≡◌, ℕ, ◌+◌, ◌≤◌, List, [], ◌∷◌, ◌++◌, length, take, drop, set, refl, ◌∙◌, ap, arith}
use Rattle.std.specs.Int.{Width, w32, byte_len, to_le_bytes}
use Rattle.std.proofs.lemmas.List.{length-append, length-take-le, take_at, take_more_set, append_assoc}
use Rattle.rv_base.specs.LittleEndian.{SetsNumber}

pub fills : (w : Width) (at end v : ℕ) (old new front : List ℕ) → length (to_le_bytes w v) ≡ byte_len w → at + byte_len w ≡ end → end ≤ length old
    → take at old ≡ front → SetsNumber w at v old new → take end new ≡ front ++ to_le_bytes w v
fills w at end v old new front width ends room begun sets =
    let taken : length (take at old) ≡ at = length-take-le at old (omega arith) in
    let both : length (take at old ++ to_le_bytes w v) ≡ end = length-append (take at old) (to_le_bytes w v) ∙ (omega (arith, taken, width)) in
    rw sets.is (take_at (take at old ++ to_le_bytes w v) (drop (at + byte_len w) old) end both)
    ∙ ap (λ (xs : List ℕ). xs ++ to_le_bytes w v) begun

pub regroup : (t a b c d e : List ℕ) → ((((t ++ a) ++ b) ++ c) ++ d) ++ e ≡ t ++ ((((a ++ b) ++ c) ++ d) ++ e)
regroup t a b c d e = simp append_assoc

-- the three fields in front of a row's accesses
pub row-front : (pc next count : ℕ) (old a b : List ℕ) → 9 ≤ length old → SetsNumber w32 0 pc old a → SetsNumber w32 4 next a b
    → take 9 (set b 8 count) ≡ to_le_bytes w32 pc ++ to_le_bytes w32 next ++ count ∷ []
row-front pc next count old a b long first second =
    let one : take 4 a ≡ to_le_bytes w32 pc = fills w32 0 4 pc old a [] refl refl (omega arith) refl first in
    let two : take 8 b ≡ to_le_bytes w32 pc ++ to_le_bytes w32 next = fills w32 4 8 next a b (to_le_bytes w32 pc) refl refl (omega (arith, first.size)) one second in
    take_more_set b 8 count (omega (arith, first.size, second.size)) ∙ ap (λ (xs : List ℕ). xs ++ count ∷ []) two
