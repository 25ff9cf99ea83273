-- An additive digest of a multiset of tuples, in outline after Clarke et al. 2003, with SHA-512 of FIPS 180-4, section 6.4. The lanes and their sum are this project's own.
use Rattle.std.specs.Prelude.{ℕ, ◌*◌, ◌%◌, ◌^◌, List, [], ◌∷◌, ◌++◌, map, sum_by, slice_index}
use Rattle.std.specs.List.{flat_map, range_with_len}
use Rattle.std.specs.Int.{w32, w64, to_le_bytes}
use Rattle.sha2.specs.Sha512.{sha512}
use Rattle.rv_base.specs.declared.record.Tuple.{Tuple}
use Rattle.rv_spec.specs.Words.{u64_at}

-- sixteen numbers below 2 ^ 64 for each tuple
abbrev pub Lanes : Type 0
Lanes = Tuple → List ℕ

abbrev pub lane_numbers : List ℕ
lane_numbers = 0 ∷ 1 ∷ 2 ∷ 3 ∷ 4 ∷ 5 ∷ 6 ∷ 7 ∷ 8 ∷ 9 ∷ 10 ∷ 11 ∷ 12 ∷ 13 ∷ 14 ∷ 15 ∷ []

-- lane j of the digest of a list: the sum of its tuples' lanes j, modulo 2 ^ 64
unfoldable pub digest_lane : Lanes → List Tuple → ℕ → ℕ
digest_lane lanes ts j = sum_by (λ t. slice_index (lanes t) j) ts % 2 ^ 64

abbrev pub digest : Lanes → List Tuple → List ℕ
digest lanes ts = map (digest_lane lanes ts) lane_numbers

-- the bytes of a tuple and of a digest
abbrev pub tuple_bytes : Tuple → List ℕ
tuple_bytes t = to_le_bytes w32 t.cell ++ to_le_bytes w32 t.value ++ to_le_bytes w64 t.time

abbrev pub set_digest_bytes : List ℕ → List ℕ
set_digest_bytes sums = flat_map (to_le_bytes w64) sums

-- the eight numbers in a hash value
abbrev pub eight_lanes : List ℕ → List ℕ
eight_lanes hash = map (λ j. u64_at hash (8 * j)) (range_with_len 0 8)

-- the lanes by SHA-512: of the byte 0 and the tuple, then of the byte 1 and the tuple
unfoldable pub sha_lanes : Lanes
sha_lanes t = eight_lanes (sha512 (0 ∷ tuple_bytes t)) ++ eight_lanes (sha512 (1 ∷ tuple_bytes t))
