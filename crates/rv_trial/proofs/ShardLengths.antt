-- How many bytes the shards of a run have: each has a head and two digests, and each row its front and its accesses.
use Rattle.std.proofs.Common.{◌≡◌, ℕ, zero, suc, ◌+◌, ◌-◌, ◌*◌, ◌<◌, ◌≤◌, min, List, [], ◌∷◌, ◌++◌, length, map, refl, sym, ◌∙◌, ap, arith, append-nil, length-append}
use Rattle.std.specs.List.{flat_map, range_with_len}
use Rattle.std.specs.Int.{IsInRange, div_ceil}
use Rattle.std.proofs.lemmas.Grind.{div_ceil_times, flat_map-append}
use Rattle.std.proofs.lemmas.List.FromFn.{length-map-range_with_len}
use Rattle.rv_base.specs.declared.limits.TheConstants.{SHARD_SIZE_LIMIT}
use Rattle.rv_base.specs.declared.record.End.{End}
use Rattle.rv_base.specs.declared.record.Tuple.{Tuple}
use Rattle.rv_spec.specs.Elf.{Image}
use Rattle.rv_spec.specs.Run.{EndsIn}
use Rattle.rv_spec.specs.Digest.{Lanes, digest, set_digest_bytes}
use Rattle.rv_spec.specs.Trace.{Row, row, rows}
use Rattle.rv_spec.specs.Tuples.{events, tuple_read, tuple_written}
use Rattle.rv_spec.specs.Record.{head_bytes, row_bytes, shard_bytes, rows_length, shard_of, shard_rows}
use Rattle.rv_file.proofs.Lemmas.{length-rows, length-head_bytes}
use Rattle.rv_book.proofs.Lemmas.{range-snoc}
use Rattle.rv_point.specs.Start.{piece}
use Rattle.rv_point.proofs.Lemmas.{pieces-are-shards}
use Rattle.rv_sound.proofs.Lemmas.{rows-split}

-- ---- lists

single : {X : Type 0} (f : X → List ℕ) (x : X) → flat_map f (x ∷ []) ≡ f x
single f x = append-nil (f x)

pub one-more : (bytes : ℕ → List ℕ) (n : ℕ) → flat_map bytes (range_with_len 0 n) ++ bytes n ≡ flat_map bytes (range_with_len 0 (n + 1))
one-more bytes n =
    ap (λ ys. flat_map bytes (range_with_len 0 n) ++ ys) (sym (single bytes n)) ∙ sym (flat_map-append bytes (range_with_len 0 n) (n ∷ []))
    ∙ ap (flat_map bytes) (sym (range-snoc 0 n n (let e : 0 + n ≡ n = omega arith in e)))

-- ---- a shard

rows-counted : (rs : List Row) → rows_length rs ≡ 9 * length rs + 21 * length (flat_map (λ r. r.accesses) rs)
rows-counted [] = refl
rows-counted (r ∷ rs) = omega (arith, rows-counted rs, length-append r.accesses (flat_map (λ r. r.accesses) rs))

digest-length : (lanes : Lanes) (ts : List Tuple) → length (set_digest_bytes (digest lanes ts)) ≡ 128
digest-length lanes ts = refl

shard-length : (lanes : Lanes) (i : Image) (input : List ℕ) (j k n : ℕ) → length (shard_bytes (shard_of lanes i input j k n)) ≡ 288 + 9 * n + 21 * length (flat_map (λ r. r.accesses) (rows i input k n))
unfolding shard_bytes
shard-length lanes i input j k n =
    let s = shard_of lanes i input j k n in
    let rs : List ℕ = flat_map row_bytes s.rows in
    let a : List ℕ = set_digest_bytes s.reads in
    let b : List ℕ = set_digest_bytes s.writes in
    let a_length : length a ≡ 128 = digest-length lanes (map tuple_read (events k (rows i input k n))) in
    let b_length : length b ≡ 128 = digest-length lanes (map tuple_written (events k (rows i input k n))) in
    omega (
      arith,
      length-append (head_bytes s.head) rs,
      length-append (head_bytes s.head ++ rs) a,
      length-append (head_bytes s.head ++ rs ++ a) b,
      length-head_bytes s.head,
      length-rows s.rows,
      rows-counted s.rows,
      length-map-range_with_len (row i input) k n,
      a_length,
      b_length,
    )

-- ---- all shards

-- shard j begins before the last step
begins-within : (n size j : ℕ) → 0 < size → j < div_ceil n size → j * size < n
begins-within n size j some less =
    let d : ℕ = div_ceil n size - (j + 1) in
    let whole : div_ceil n size ≡ j + 1 + d = omega (arith, less) in
    let times : div_ceil n size * size ≡ j * size + size + d * size = ap (λ x. x * size) whole ∙ (let spread : (j + 1 + d) * size ≡ j * size + size + d * size = omega arith in spread) in
    omega (arith, times, (div_ceil_times n size some).1)

module _ (lanes : Lanes) (i : Image) (input : List ℕ) (size n : ℕ) (e : End) (ends : EndsIn i input n e) (within : IsInRange 1 SHARD_SIZE_LIMIT size) where
  abbrev first : ℕ → ℕ
  first k = length (flat_map (λ r. r.accesses) (rows i input 0 k))

  abbrev bytes : ℕ → List ℕ
  bytes j = (piece lanes i input size j).bytes

  first-more : (k m : ℕ) → first (k + m) ≡ first k + length (flat_map (λ r. r.accesses) (rows i input k m))
  first-more k m =
      let from : 0 + k ≡ k = omega arith in
      ap (λ (rs : List Row). length (flat_map (λ r. r.accesses) rs)) (rows-split i input 0 k m ∙ ap (λ x. rows i input 0 k ++ rows i input x m) from)
      ∙ ap length (flat_map-append (λ (r : Row). r.accesses) (rows i input 0 k) (rows i input k m))
      ∙ length-append (flat_map (λ r. r.accesses) (rows i input 0 k)) (flat_map (λ r. r.accesses) (rows i input k m))

  shards-to : (j : ℕ) → j ≤ div_ceil n size → length (flat_map bytes (range_with_len 0 j)) ≡ 288 * j + 9 * min n (j * size) + 21 * first (min n (j * size))
  shards-to zero most =
      let none : min n (zero * size) ≡ 0 = omega arith in
      let no_uses : first (min n (zero * size)) ≡ 0 = ap first none in
      omega (arith, none, no_uses)
  shards-to (suc j) most =
      let k : ℕ = j * size in
      let m : ℕ = shard_rows size n j in
      let begins : k < n = begins-within n size j (omega (arith, within.0)) (omega (arith, most)) in
      let before : min n (j * size) ≡ k = omega (arith, begins) in
      let next : suc j * size ≡ k + size = omega arith in
      let behind : min n (suc j * size) ≡ k + m = omega (arith, begins, next) in
      let one : length (bytes j) ≡ 288 + 9 * m + 21 * length (flat_map (λ r. r.accesses) (rows i input k m)) =
      ap length (pieces-are-shards lanes i input size n j e ends within (omega (arith, most))).bytes ∙ shard-length lanes i input j k m in
      let used_before : first (min n (j * size)) ≡ first k = ap first before in
      let used_behind : first (min n (suc j * size)) ≡ first k + length (flat_map (λ r. r.accesses) (rows i input k m)) = ap first behind ∙ first-more k m in
      let behind_it : suc j ≡ j + 1 = omega arith in
      let split : length (flat_map bytes (range_with_len 0 (suc j))) ≡ length (flat_map bytes (range_with_len 0 j)) + length (bytes j) =
      ap (λ m. length (flat_map bytes (range_with_len 0 m))) behind_it ∙ ap length (sym (one-more bytes j)) ∙ length-append (flat_map bytes (range_with_len 0 j)) (bytes j) in
      omega (arith, split, one, shards-to j (omega (arith, most)), used_before, used_behind, before, behind)

  pub shards-length : length (flat_map bytes (range_with_len 0 (div_ceil n size))) ≡ 288 * div_ceil n size + 9 * n + 21 * first n
  shards-length =
      let enough = (div_ceil_times n size (omega (arith, within.0))).0 in
      let all : min n (div_ceil n size * size) ≡ n = omega (arith, enough) in
      let used : first (min n (div_ceil n size * size)) ≡ first n = ap first all in
      omega (arith, shards-to (div_ceil n size) (omega arith), all, used)
