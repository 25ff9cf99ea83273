-- A number written at a place is read back from there, and all other bytes stay: once, for every width.
use Rattle.std.proofs.Common.{◌≡◌, ℕ, ◌+◌, ◌-◌, ◌^◌, ◌<◌, ◌≤◌, ◌⊎◌, inl, inr, List, ◌++◌, length, take, drop, slice_index, refl, sym, ◌∙◌, ap, arith, append_assoc, length-append, length-drop}
use Rattle.std.specs.Int.{Width, w32, w64, byte_len, from_le_bytes, to_le_bytes}
use Rattle.std.proofs.lemmas.List.{length-take-le, get_or_append_left, get_or-drop, get_or-take}
use Rattle.std.proofs.Math.Seq.{drop-append_seam, get_or-append_right}
use Rattle.std.proofs.lemmas.Nat.{from_le_bytes-to_le_bytes_4, from_le_bytes-to_le_bytes_8}
use Rattle.rv_base.specs.LittleEndian.{with_number, SetsNumber}

others : (old put : List ℕ) (at size k : ℕ) → length put ≡ size → at + size ≤ length old → (k < at) ⊎ (at + size ≤ k)
    → slice_index ((take at old ++ put) ++ drop (at + size) old) k ≡ slice_index old k
others old put at size k put_len room (inl before) =
    let taken : length (take at old) ≡ at = length-take-le at old (omega arith) in
    let both : length (take at old ++ put) ≡ at + size = length-append (take at old) put ∙ (omega (arith, taken, put_len)) in
    get_or_append_left (take at old ++ put) (drop (at + size) old) 0 k (omega (arith, both))
    ∙ get_or_append_left (take at old) put 0 k (omega (arith, taken))
    ∙ get_or-take at old k 0 before
others old put at size k put_len room (inr behind) =
    let taken : length (take at old) ≡ at = length-take-le at old (omega arith) in
    let both : length (take at old ++ put) ≡ at + size = length-append (take at old) put ∙ (omega (arith, taken, put_len)) in
    get_or-append_right (take at old ++ put) (drop (at + size) old) k 0 (omega (arith, both))
    ∙ get_or-drop (at + size) old (k - length (take at old ++ put)) 0
    ∙ ap (λ n. slice_index old n) (omega (arith, both))

-- for a width whose numbers are read back from in front of any bytes
sets : (w : Width) (at v : ℕ) (old : List ℕ) → length (to_le_bytes w v) ≡ byte_len w → ((rest : List ℕ) → from_le_bytes w (to_le_bytes w v ++ rest) ≡ v)
    → at + byte_len w ≤ length old → SetsNumber w at v old (with_number w old at v)
sets w at v old width reads room =
    let taken : length (take at old) ≡ at = length-take-le at old (omega arith) in
    let rest : List ℕ = drop (at + byte_len w) old in
    record {
      is = refl;
      number =
          ap (λ bytes. from_le_bytes w (drop at bytes)) (append_assoc (take at old) (to_le_bytes w v) rest)
          ∙ ap (λ n. from_le_bytes w (drop n (take at old ++ (to_le_bytes w v ++ rest)))) (sym taken)
          ∙ ap (from_le_bytes w) (drop-append_seam (take at old) (to_le_bytes w v ++ rest))
          ∙ reads rest;
      others = λ k apart. others old (to_le_bytes w v) at (byte_len w) k width room apart;
      size =
          length-append (take at old ++ to_le_bytes w v) rest
          ∙ (omega (arith, length-append (take at old) (to_le_bytes w v), length-drop (at + byte_len w) old, taken, width));
    }

pub sets32 : (at v : ℕ) (old new : List ℕ) → v < 2 ^ 32 → at + 4 ≤ length old → new ≡ with_number w32 old at v → SetsNumber w32 at v old new
sets32 at v old new fits room is = rw is (sets w32 at v old refl (λ rest. from_le_bytes-to_le_bytes_4 v fits) room)

pub sets64 : (at v : ℕ) (old new : List ℕ) → v < 2 ^ 64 → at + 8 ≤ length old → new ≡ with_number w64 old at v → SetsNumber w64 at v old new
sets64 at v old new fits room is = rw is (sets w64 at v old refl (λ rest. from_le_bytes-to_le_bytes_8 v fits) room)
