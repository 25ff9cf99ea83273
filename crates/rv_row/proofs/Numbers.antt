-- Numbers as fields of bytes: what is read is spelled so, and what is spelled so is read.
use Rattle.std.proofs.Common.{◌≡◌, ℕ, ◌+◌, ◌^◌, ◌<◌, ◌≤◌, List, ◌∷◌, ◌++◌, length, get_or, take, drop, refl, sym, ap, ◌∙◌, arith}
use Rattle.std.specs.Int.{Width, w32, w64, byte_len, from_le_bytes, to_le_bytes}
use Rattle.std.proofs.lemmas.List.{take-append-drop, length-take-le, length-drop, drop-drop, drop_more, get_or-take}
use Rattle.std.proofs.lemmas.Nat.{le_bytes_4, le_bytes_8, from_le_bytes-to_le_bytes_4, from_le_bytes-to_le_bytes_8}
use Rattle.rv_base.specs.LittleEndian.{number_at}
use Rattle.rv_spec.specs.Words.{AreBytes}
use Rattle.rv_rules.proofs.Lemmas.{byte-fits, take-bytes, drop-bytes}

-- numbers of a width, below a limit
pub record IsWide (w : Width) (limit : ℕ) : Type 0 where
  pub size : (n : ℕ) → length (to_le_bytes w n) ≡ byte_len w
  pub takes : (bytes : List ℕ) → AreBytes bytes → byte_len w ≤ length bytes → to_le_bytes w (from_le_bytes w bytes) ++ drop (byte_len w) bytes ≡ bytes
  pub again : (n : ℕ) (rest : List ℕ) → n < limit → from_le_bytes w (to_le_bytes w n ++ rest) ≡ n
  pub below : (bytes : List ℕ) → AreBytes bytes → from_le_bytes w bytes < limit

front32 : (bytes : List ℕ) → from_le_bytes w32 bytes ≡ from_le_bytes w32 (take 4 bytes)
front32 bytes =
    rw (get_or-take 4 bytes 0 0 (omega arith), get_or-take 4 bytes 1 0 (omega arith), get_or-take 4 bytes 2 0 (omega arith), get_or-take 4 bytes 3 0 (omega arith)) refl

front64 : (bytes : List ℕ) → from_le_bytes w64 bytes ≡ from_le_bytes w64 (take 8 bytes)
front64 bytes =
    rw (
      get_or-take 8 bytes 0 0 (omega arith),
      get_or-take 8 bytes 1 0 (omega arith),
      get_or-take 8 bytes 2 0 (omega arith),
      get_or-take 8 bytes 3 0 (omega arith),
      get_or-take 8 bytes 4 0 (omega arith),
      get_or-take 8 bytes 5 0 (omega arith),
      get_or-take 8 bytes 6 0 (omega arith),
      get_or-take 8 bytes 7 0 (omega arith),
    ) refl

pub wide32 : IsWide w32 (2 ^ 32)
wide32 = record {
  size = λ n. refl;
  takes = λ bytes fits room.
      ap (λ (xs : List ℕ). xs ++ drop 4 bytes) (le_bytes_4 (take 4 bytes) (from_le_bytes w32 bytes) (length-take-le 4 bytes room) (λ i. byte-fits (take 4 bytes) i (take-bytes 4 bytes fits)) (front32 bytes))
      ∙ take-append-drop 4 bytes;
  again = λ n rest lt. from_le_bytes-to_le_bytes_4 n lt;
  below = λ bytes fits. omega (arith, byte-fits bytes 0 fits, byte-fits bytes 1 fits, byte-fits bytes 2 fits, byte-fits bytes 3 fits);
}

pub wide64 : IsWide w64 (2 ^ 64)
wide64 = record {
  size = λ n. refl;
  takes = λ bytes fits room.
      ap (λ (xs : List ℕ). xs ++ drop 8 bytes) (le_bytes_8 (take 8 bytes) (from_le_bytes w64 bytes) (length-take-le 8 bytes room) (λ i. byte-fits (take 8 bytes) i (take-bytes 8 bytes fits)) (front64 bytes))
      ∙ take-append-drop 8 bytes;
  again = λ n rest lt. from_le_bytes-to_le_bytes_8 n lt;
  below = λ bytes fits. omega (arith, byte-fits bytes 0 fits, byte-fits bytes 1 fits, byte-fits bytes 2 fits, byte-fits bytes 3 fits, byte-fits bytes 4 fits, byte-fits bytes 5 fits, byte-fits bytes 6 fits, byte-fits bytes 7 fits);
}

-- the number at a place, and what follows it
pub field : (w : Width) (limit : ℕ) (wide : IsWide w limit) (bytes : List ℕ) (at end : ℕ) → AreBytes bytes → at + byte_len w ≡ end → end ≤ length bytes
    → to_le_bytes w (number_at w bytes at) ++ drop end bytes ≡ drop at bytes
field w limit wide bytes at end fits ends room =
    let behind : drop end bytes ≡ drop (byte_len w) (drop at bytes) = ap (λ n. drop n bytes) (sym ends) ∙ sym (drop-drop (byte_len w) at bytes) in
    ap (λ (xs : List ℕ). to_le_bytes w (number_at w bytes at) ++ xs) behind
    ∙ wide.takes (drop at bytes) (drop-bytes at bytes fits) (omega (arith, length-drop at bytes))

pub field32 : (bytes : List ℕ) (at end : ℕ) → AreBytes bytes → at + 4 ≡ end → end ≤ length bytes → to_le_bytes w32 (number_at w32 bytes at) ++ drop end bytes ≡ drop at bytes
field32 = field w32 (2 ^ 32) wide32

pub field64 : (bytes : List ℕ) (at end : ℕ) → AreBytes bytes → at + 8 ≡ end → end ≤ length bytes → to_le_bytes w64 (number_at w64 bytes at) ++ drop end bytes ≡ drop at bytes
field64 = field w64 (2 ^ 64) wide64

pub below32 : (bytes : List ℕ) (at : ℕ) → AreBytes bytes → number_at w32 bytes at < 2 ^ 32
below32 bytes at fits = wide32.below (drop at bytes) (drop-bytes at bytes fits)

pub below64 : (bytes : List ℕ) (at : ℕ) → AreBytes bytes → number_at w64 bytes at < 2 ^ 64
below64 bytes at fits = wide64.below (drop at bytes) (drop-bytes at bytes fits)

pub byte-at-front : (bytes : List ℕ) (at end : ℕ) → at + 1 ≡ end → end ≤ length bytes → get_or bytes at 0 ∷ drop end bytes ≡ drop at bytes
byte-at-front bytes at end ends room = sym (drop_more bytes at 0 (omega arith) ∙ ap (λ n. get_or bytes at 0 ∷ drop n bytes) ends)
