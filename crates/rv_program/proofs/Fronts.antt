-- A header is read the same from its own bytes alone.
use Rattle.std.proofs.Common.{◌≡◌, ℕ, ◌≤◌, List, ◌++◌, length, take, drop, sym, ap, ◌∙◌, arith}
use Rattle.std.proofs.lemmas.List.{take-append-le, take-append-drop, length-take-le}
use Rattle.rv_rules.specs.Reading.{header_of}
use Rattle.rv_reading.proofs.Lemmas.{header-front}

-- the header in the first 173 bytes of a file is that of the file
pub header-in-front : (file front : List ℕ) → 173 ≤ length file → front ≡ take 173 file → header_of front ≡ header_of file
header-in-front file front room is =
    let size : 173 ≤ length front = omega (arith, ap length is, length-take-le 173 file room) in
    sym (header-front front (drop 173 file) size)
    ∙ ap header_of (ap (λ (xs : List ℕ). xs ++ drop 173 file) is ∙ take-append-drop 173 file)

-- and so are its first eight bytes
pub magic-in-front : (file front : List ℕ) → 173 ≤ length file → front ≡ take 173 file → take 8 front ≡ take 8 file
magic-in-front file front room is =
    let size : 173 ≤ length front = omega (arith, ap length is, length-take-le 173 file room) in
    sym (take-append-le 8 front (drop 173 file) (omega (arith, size)))
    ∙ ap (take 8) (ap (λ (xs : List ℕ). xs ++ drop 173 file) is ∙ take-append-drop 173 file)
