-- The first elements of a list, and two more or one more.
use Rattle.std.proofs.Common.{◌≡◌, ℕ, ◌+◌, ◌*◌, ◌<◌, List, [], ◌∷◌, ◌++◌, length, take, get_or, sym, ◌∙◌, ap, append_assoc, arith}
use Rattle.std.proofs.lemmas.List.{take_all, take_more}

pub take-two-more : {X : Type 0} → (xs : List X) (i : ℕ) (d e : X) → 2 * i + 1 < length xs
    → take (2 * i) xs ++ get_or xs (2 * i) d ∷ get_or xs (2 * i + 1) e ∷ [] ≡ take (2 * (i + 1)) xs
take-two-more xs i d e inside =
    let end : 2 * i + 1 + 1 ≡ 2 * (i + 1) = omega arith in
    sym (append_assoc (take (2 * i) xs) (get_or xs (2 * i) d ∷ []) (get_or xs (2 * i + 1) e ∷ []))
    ∙ (λ k. sym (take_more xs (2 * i) d (omega arith)) k ++ get_or xs (2 * i + 1) e ∷ [])
    ∙ sym (take_more xs (2 * i + 1) e inside)
    ∙ ap (λ n. take n xs) end

pub take-last : {X : Type 0} → (xs : List X) (n k : ℕ) (d : X) → n + 1 ≡ length xs → k ≡ n → take n xs ++ get_or xs k d ∷ [] ≡ xs
take-last xs n k d whole same =
    (λ i. take n xs ++ get_or xs (same i) d ∷ []) ∙ sym (take_more xs n d (omega arith)) ∙ take_all (n + 1) xs (omega arith)
