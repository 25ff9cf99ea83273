-- Parts of one size, one after another: digests' numbers.
use Rattle.std.proofs.Common.{◌≡◌, ℕ, zero, suc, ◌+◌, ◌*◌, ◌^◌, ◌<◌, ◌≤◌, List, [], ◌∷◌, ◌++◌, length, map, drop, refl, sym, ap, ◌∙◌, append_assoc, arith}
use Rattle.std.specs.Int.{w64, to_le_bytes}
use Rattle.std.specs.List.{flat_map, range_with_len, AllByRecursion}
use Rattle.std.proofs.lemmas.List.{length-append, drop_at}
use Rattle.std.proofs.lemmas.List.FromFn.{length-map-range_with_len}
use Rattle.rv_spec.specs.Words.{u64_at, AreBytes}
use Rattle.rv_spec.specs.Digest.{set_digest_bytes}
use Rattle.rv_spec.specs.Grammar.{AreNumbers}
use Rattle.rv_rules.specs.Reading.{digest_of}
use Rattle.rv_row.proofs.Lemmas.{wide64, field64, below64}

abbrev lane_at : List ℕ → ℕ → ℕ
lane_at bytes j = u64_at bytes (8 * j)

lanes-take : (bytes : List ℕ) (i n : ℕ) → AreBytes bytes → 8 * (i + n) ≤ length bytes
    → flat_map (to_le_bytes w64) (map (lane_at bytes) (range_with_len i n)) ++ drop (8 * (i + n)) bytes ≡ drop (8 * i) bytes
lanes-take bytes i zero fits room = ap (λ k. drop (8 * k) bytes) (omega arith)
lanes-take bytes i (suc n) fits room =
    let behind = flat_map (to_le_bytes w64) (map (lane_at bytes) (range_with_len (i + 1) n)) in
    let one-less : i + suc n ≡ (i + 1) + n = omega arith in
    let others : behind ++ drop (8 * ((i + 1) + n)) bytes ≡ drop (8 * (i + 1)) bytes = lanes-take bytes (i + 1) n fits (omega arith) in
    append_assoc (to_le_bytes w64 (lane_at bytes i)) behind (drop (8 * (i + suc n)) bytes)
    ∙ ap (λ k. to_le_bytes w64 (lane_at bytes i) ++ (behind ++ drop (8 * k) bytes)) one-less
    ∙ ap (λ (xs : List ℕ). to_le_bytes w64 (lane_at bytes i) ++ xs) others
    ∙ field64 bytes (8 * i) (8 * (i + 1)) fits (omega arith) (omega arith)

pub digest-takes : (bytes : List ℕ) → AreBytes bytes → 128 ≤ length bytes → set_digest_bytes (digest_of bytes) ++ drop 128 bytes ≡ bytes
digest-takes bytes fits room = lanes-take bytes 0 16 fits room

lanes-fit : (bytes : List ℕ) (i n : ℕ) → AreBytes bytes → AllByRecursion (λ x. x < 2 ^ 64) (map (lane_at bytes) (range_with_len i n))
lanes-fit bytes i zero fits = tt
lanes-fit bytes i (suc n) fits = (below64 bytes (8 * i) fits, lanes-fit bytes (i + 1) n fits)

pub digest-fits : (bytes : List ℕ) → AreBytes bytes → AreNumbers 16 64 (digest_of bytes)
digest-fits bytes fits = (length-map-range_with_len (lane_at bytes) 0 16, lanes-fit bytes 0 16 fits)

lanes-again : (xs whole before rest : List ℕ) (i : ℕ) → AllByRecursion (λ x. x < 2 ^ 64) xs → length before ≡ 8 * i
    → whole ≡ before ++ (flat_map (to_le_bytes w64) xs ++ rest) → map (lane_at whole) (range_with_len i (length xs)) ≡ xs
lanes-again [] whole before rest i fits at is = refl
lanes-again (x ∷ xs) whole before rest i fits at is =
    let one = to_le_bytes w64 x in
    let behind = flat_map (to_le_bytes w64) xs ++ rest in
    let regrouped : whole ≡ before ++ (one ++ behind) = is ∙ ap (λ (ys : List ℕ). before ++ ys) (append_assoc one (flat_map (to_le_bytes w64) xs) rest) in
    let here : drop (8 * i) whole ≡ one ++ behind = rw regrouped (drop_at before (one ++ behind) (8 * i) at) in
    let first : lane_at whole i ≡ x = rw here (wide64.again x behind fits.0) in
    let size : length (before ++ one) ≡ 8 * (i + 1) = omega (arith, length-append before one, at) in
    let others = lanes-again xs whole (before ++ one) rest (i + 1) fits.1 size (regrouped ∙ sym (append_assoc before one behind)) in
    λ t. first t ∷ others t

pub digest-again : (xs rest : List ℕ) → AreNumbers 16 64 xs → digest_of (set_digest_bytes xs ++ rest) ≡ xs
digest-again xs rest fits =
    ap (λ n. map (lane_at (set_digest_bytes xs ++ rest)) (range_with_len 0 n)) (sym fits.0)
    ∙ lanes-again xs (set_digest_bytes xs ++ rest) [] rest 0 fits.1 refl refl

length-lanes : (xs : List ℕ) → length (flat_map (to_le_bytes w64) xs) ≡ 8 * length xs
length-lanes [] = refl
length-lanes (x ∷ xs) = length-append (to_le_bytes w64 x) (flat_map (to_le_bytes w64) xs) ∙ omega (arith, length-lanes xs)

pub length-digest_bytes : (xs : List ℕ) → AreNumbers 16 64 xs → length (set_digest_bytes xs) ≡ 128
length-digest_bytes xs fits = length-lanes xs ∙ omega (arith, fits.0)
