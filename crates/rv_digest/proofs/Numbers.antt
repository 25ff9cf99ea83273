-- Numbers of 8 bytes, one after another: written and read back, read and written back.
use Rattle.std.proofs.Common.{◌≡◌, ℕ, zero, suc, ◌+◌, ◌*◌, ◌^◌, ◌<◌, ◌≤◌, List, [], ◌∷◌, ◌++◌, map, length, take, drop, get_or, refl, sym, ◌∙◌, ap, subst, arith, length-drop}
use Rattle.std.specs.Int.{w64, to_le_bytes, from_le_bytes}
use Rattle.std.specs.List.{flat_map, range_with_len}
use Rattle.std.proofs.lemmas.Grind.{flat_map-append}
use Rattle.std.proofs.lemmas.List.{ext_get_or, get_or-drop}
use Rattle.std.proofs.lemmas.List.FromFn.{map-range_with_len_more, length-map-range_with_len, get_or-map-range_with_len}
use Rattle.std.proofs.lemmas.Nat.{le_bytes_8, from_le_bytes-to_le_bytes_8}
use Rattle.std.proofs.lemmas.Simd.{pick_l-range_with_len}
use Rattle.std.proofs.Math.Seq.{drop-append-add, take-add}
use Rattle.rv_base.specs.LittleEndian.{u64_at}

-- the first n numbers of the bytes
abbrev pub numbers : List ℕ → ℕ → List ℕ
numbers bytes n = map (λ j. u64_at bytes (8 * j)) (range_with_len 0 n)

abbrev pub bytes_of : List ℕ → List ℕ
bytes_of xs = flat_map (to_le_bytes w64) xs

pub numbers-more : (bytes : List ℕ) (n : ℕ) → numbers bytes (n + 1) ≡ numbers bytes n ++ u64_at bytes (8 * n) ∷ []
numbers-more bytes n = map-range_with_len_more (λ j. u64_at bytes (8 * j)) 0 n n (omega arith)

-- ---- read, then written

read-bytes : (bytes ks : List ℕ) → ((k : ℕ) → get_or bytes k 0 < 256) → (i : ℕ) → get_or (map (λ k. get_or bytes k 0) ks) i 0 < 256
read-bytes bytes [] fit i = omega arith
read-bytes bytes (k ∷ ks) fit zero = fit k
read-bytes bytes (k ∷ ks) fit (suc i) = read-bytes bytes ks fit i

-- the number of the first eight bytes is written as these
first-eight : (bytes : List ℕ) → 8 ≤ length bytes → ((k : ℕ) → get_or bytes k 0 < 256) → to_le_bytes w64 (from_le_bytes w64 bytes) ≡ take 8 bytes
first-eight bytes room fit =
    let eight : List ℕ = map (λ k. get_or bytes k 0) (range_with_len 0 8) in
    le_bytes_8 eight (from_le_bytes w64 bytes) refl (read-bytes bytes (range_with_len 0 8) fit) refl ∙ pick_l-range_with_len 0 bytes 0 8 room

one-more : (bytes : List ℕ) (n : ℕ) → 8 * (n + 1) ≤ length bytes → ((k : ℕ) → get_or bytes k 0 < 256) → bytes_of (numbers bytes n) ≡ take (8 * n) bytes → bytes_of (numbers bytes (n + 1)) ≡ take (8 * (n + 1)) bytes
one-more bytes n room fit before =
    let rest : List ℕ = drop (8 * n) bytes in
    let long : 8 ≤ length rest = omega (arith, length-drop (8 * n) bytes) in
    let fits : (k : ℕ) → get_or rest k 0 < 256 = λ k. subst (λ b. b < 256) (sym (get_or-drop (8 * n) bytes k 0)) (fit (8 * n + k)) in
    let end : 8 * n + 8 ≡ 8 * (n + 1) = omega arith in
    ap bytes_of (numbers-more bytes n)
    ∙ flat_map-append (to_le_bytes w64) (numbers bytes n) (u64_at bytes (8 * n) ∷ [])
    ∙ (λ i. before i ++ first-eight rest long fits i)
    ∙ sym (take-add (8 * n) 8 bytes)
    ∙ ap (λ k. take k bytes) end

pub written-back : (bytes : List ℕ) (n : ℕ) → 8 * n ≤ length bytes → ((k : ℕ) → get_or bytes k 0 < 256) → bytes_of (numbers bytes n) ≡ take (8 * n) bytes
written-back bytes zero room fit = refl
written-back bytes (suc n) room fit =
    let next : n + 1 ≡ suc n = omega arith in
    subst (λ k. bytes_of (numbers bytes k) ≡ take (8 * k) bytes) next (one-more bytes n (omega arith) fit (written-back bytes n (omega arith) fit))

-- ---- written, then read

pub read-back-at : (xs : List ℕ) (i : ℕ) → i < length xs → ((k : ℕ) → get_or xs k 0 < 2 ^ 64) → u64_at (bytes_of xs) (8 * i) ≡ get_or xs i 0
read-back-at [] i inside fit = absurd (omega (arith, inside))
read-back-at (x ∷ xs) zero inside fit = from_le_bytes-to_le_bytes_8 x (fit 0)
read-back-at (x ∷ xs) (suc i) inside fit =
    let later : 8 * suc i ≡ 8 + 8 * i = omega arith in
    ap (λ n. u64_at (bytes_of (x ∷ xs)) n) later
    ∙ ap (from_le_bytes w64) (drop-append-add (to_le_bytes w64 x) (bytes_of xs) (8 * i))
    ∙ read-back-at xs i (omega arith) (λ k. fit (suc k))

pub read-back : (xs : List ℕ) → ((k : ℕ) → get_or xs k 0 < 2 ^ 64) → numbers (bytes_of xs) (length xs) ≡ xs
read-back xs fit =
    let size : length (numbers (bytes_of xs) (length xs)) ≡ length xs = length-map-range_with_len (λ j. u64_at (bytes_of xs) (8 * j)) 0 (length xs) in
    ext_get_or 0 _ xs size (λ i inside.
    let below : i < length xs = subst (λ n. i < n) size inside in
    get_or-map-range_with_len (λ j. u64_at (bytes_of xs) (8 * j)) 0 (length xs) i i 0 below (omega arith) ∙ read-back-at xs i below fit)
