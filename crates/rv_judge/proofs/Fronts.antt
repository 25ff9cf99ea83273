-- What lies at the front of bytes is read the same from the front alone.
use Rattle.std.proofs.Common.{◌≡◌, ℕ, ◌≤◌, List, length, take, drop, sym, ap, ◌∙◌, arith}
use Rattle.std.proofs.lemmas.List.{length-take, take-append-drop}
use Rattle.rv_rules.specs.Reading.{header_of, head_of, digest_of}
use Rattle.rv_reading.proofs.Lemmas.{header-front, head-front, digest-front}

long-enough : (n : ℕ) (xs : List ℕ) → n ≤ length xs → n ≤ length (take n xs)
long-enough n xs le = omega (arith, le, length-take n xs)

pub head-taken : (xs : List ℕ) → 32 ≤ length xs → head_of (take 32 xs) ≡ head_of xs
head-taken xs le = sym (head-front (take 32 xs) (drop 32 xs) (long-enough 32 xs le)) ∙ ap head_of (take-append-drop 32 xs)

pub digest-taken : (xs : List ℕ) → 128 ≤ length xs → digest_of (take 128 xs) ≡ digest_of xs
digest-taken xs le = sym (digest-front (take 128 xs) (drop 128 xs) (long-enough 128 xs le)) ∙ ap digest_of (take-append-drop 128 xs)

pub header-taken : (xs : List ℕ) → 173 ≤ length xs → header_of (take 173 xs) ≡ header_of xs
header-taken xs le = sym (header-front (take 173 xs) (drop 173 xs) (long-enough 173 xs le)) ∙ ap header_of (take-append-drop 173 xs)
