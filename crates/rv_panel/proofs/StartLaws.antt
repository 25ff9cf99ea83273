-- Where shards begin.
use Rattle.std.proofs.Common.{◌≡◌, ℕ, zero, suc, ◌+◌, ◌-◌, ◌<◌, List, [], ◌∷◌, ◌++◌, length, get_or, drop, refl, sym, ap, ◌∙◌, below_more, arith}
use Rattle.std.proofs.lemmas.List.{length-drop, get_or_append_left, get_or-append_right}
use Rattle.rv_file.specs.Parsing.{shard_size, behind_shards}

-- a suffix begins where its length says
pub suffix-at : (n : ℕ) (bytes rest : List ℕ) → rest ≡ drop n bytes → drop (length bytes - length rest) bytes ≡ rest
suffix-at zero bytes rest e =
    let none : length bytes - length rest ≡ 0 = omega (arith, ap length e) in
    ap (λ k. drop k bytes) none ∙ sym e
suffix-at (suc n) [] rest e =
    let none : 0 - length rest ≡ 0 = omega arith in
    ap (λ k. drop k []) none ∙ sym e
suffix-at (suc n) (x ∷ xs) rest e =
    let more : suc (length xs) - length rest ≡ suc (length xs - length rest) = omega (arith, ap length e, length-drop n xs) in
    ap (λ k. drop k (x ∷ xs)) more ∙ suffix-at n xs rest e

pub behind-more : (k : ℕ) (bytes : List ℕ) → behind_shards (k + 1) bytes ≡ drop (shard_size (behind_shards k bytes)) (behind_shards k bytes)
unfolding behind_shards
behind-more zero bytes = refl
behind-more (suc k) bytes =
    let e : suc k + 1 ≡ suc (k + 1) = omega arith in
    ap (λ n. behind_shards n bytes) e ∙ behind-more k (drop (shard_size bytes) bytes)

pub behind-zero : (bytes : List ℕ) → behind_shards 0 bytes ≡ bytes
unfolding behind_shards
behind-zero bytes = refl

-- one start more
pub starts-more : (bytes rest xs items : List ℕ) (k n : ℕ) → items ≡ xs ++ (length bytes - length rest) ∷ [] → length xs ≡ k → rest ≡ drop n bytes → rest ≡ behind_shards k bytes
    → ((i : ℕ) → i < k → drop (get_or xs i 0) bytes ≡ behind_shards i bytes) → (i : ℕ) → i < k + 1 → drop (get_or items i 0) bytes ≡ behind_shards i bytes
starts-more bytes rest xs items k n is size suffix at each =
    let start = length bytes - length rest in
    below_more _ k
    (λ i lt. ap (λ ys. drop (get_or ys i 0) bytes) is ∙ ap (λ m. drop m bytes) (get_or_append_left xs (start ∷ []) 0 i (omega (arith, lt, size))) ∙ each i lt)
    (let none : k - k ≡ 0 = omega arith in
    ap (λ ys. drop (get_or ys k 0) bytes) is
    ∙ ap (λ m. drop m bytes) (get_or-append_right xs (start ∷ []) k k 0 size (omega arith) ∙ ap (λ m. get_or (start ∷ []) m 0) none)
    ∙ suffix-at n bytes rest suffix
    ∙ at)
