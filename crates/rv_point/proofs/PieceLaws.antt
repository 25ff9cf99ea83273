-- The pieces of a run that ends are the shards of its record.
use Rattle.std.proofs.Common.{◌≡◌, ◌⊎◌, ℕ, zero, suc, ◌+◌, ◌-◌, ◌*◌, ◌<◌, ◌≤◌, min, List, ◌++◌, map, Option, refl, sym, ◌∙◌, ap, inl, inr, arith}
use Rattle.std.specs.List.{range_with_len, flat_map}
use Rattle.std.specs.Int.{div_ceil}
use Rattle.std.proofs.lemmas.Bool.{cases_lt}
use Rattle.std.proofs.lemmas.Grind.{div_ceil_times}
use Rattle.rv_base.specs.declared.record.End.{End}
use Rattle.rv_spec.specs.Elf.{Image, image}
use Rattle.rv_spec.specs.Run.{end_at, EndsIn}
use Rattle.rv_spec.specs.Digest.{Lanes}
use Rattle.rv_spec.specs.Record.{Shard, Parts, shard_bytes, header_bytes, table_bytes, file_bytes, place_at, shard_rows, shard_of, shard, record_parts}
use Rattle.rv_point.specs.Start.{one_more, steps_from, piece, IsShardOfRecord, PiecesAreShards, RecordIsPieces}

-- shard j begins before the last step
pub begins-within : (n size j : ℕ) → 0 < size → j < div_ceil n size → j * size < n
begins-within n size j some less =
    let d : ℕ = div_ceil n size - (j + 1) in
    let whole : div_ceil n size ≡ j + 1 + d = omega (arith, less) in
    let times : div_ceil n size * size ≡ j * size + size + d * size = ap (λ x. x * size) whole ∙ (let spread : (j + 1 + d) * size ≡ j * size + size + d * size = omega arith in spread) in
    omega (arith, times, (div_ceil_times n size some).1)

module _ (i : Image) (input : List ℕ) (n : ℕ) (e : End) (ends : EndsIn i input n e) where
  -- how many of m steps there are from step k on
  pub steps-left : (m k : ℕ) → k < n → steps_from i input k m ≡ min m (n - k)
  unfolding steps_from
  steps-left zero k less = omega arith
  steps-left (suc m) k less = go (cases_lt (k + 1) n) (steps-left m (k + 1))
    where
      go : (k + 1 < n) ⊎ (n ≤ k + 1) → (k + 1 < n → steps_from i input (k + 1) m ≡ min m (n - (k + 1))) → one_more (end_at i input k) (steps_from i input (k + 1) m) ≡ min (suc m) (n - k)
      go (inl more) rest =
          ap (λ (o : Option End). one_more o (steps_from i input (k + 1) m)) (ends.before k (omega arith))
          ∙ ap (λ x. x + 1) (rest more) ∙ (let count : min m (n - (k + 1)) + 1 ≡ min (suc m) (n - k) = omega arith in count)
      go (inr last) rest =
          let at : k ≡ n - 1 = omega arith in
          ap (λ (o : Option End). one_more o (steps_from i input (k + 1) m)) (ap (end_at i input) at ∙ ends.last) ∙ (let count : 1 ≡ min (suc m) (n - k) = omega arith in count)

  module _ (lanes : Lanes) (size j : ℕ) (some : 0 < size) (inside : j < div_ceil n size) where
    begins : j * size < n
    begins = begins-within n size j some inside

    as-many : steps_from i input (j * size) size ≡ shard_rows size n j
    as-many = steps-left size (j * size) begins

    pub piece-is-shard : IsShardOfRecord lanes i input size n j
    piece-is-shard = record {
      has = λ k less. ends.before k (let first : j * size < n = begins in omega arith);
      rows = as-many;
      bytes = ap (λ m. shard_bytes (shard_of lanes i input j (j * size) m)) as-many;
      reads = ap (λ m. (shard_of lanes i input j (j * size) m).reads) as-many;
      writes = ap (λ m. (shard_of lanes i input j (j * size) m).writes) as-many;
      place = ap (λ m. place_at i input (j * size + m)) as-many;
    }

pub pieces-are-shards : PiecesAreShards
pieces-are-shards lanes i input size n j e ends within inside = piece-is-shard i input n e ends lanes size j (omega (arith, within.0)) inside

-- ---- the record

-- bytes that are the same for each number of a range
same-bytes : (f : Shard → List ℕ) (g : ℕ → Shard) (h : ℕ → List ℕ) (top from count : ℕ) → from + count ≤ top → ((j : ℕ) → j < top → f (g j) ≡ h j) → flat_map f (map g (range_with_len from count)) ≡ flat_map h (range_with_len from count)
same-bytes f g h top from zero most each = refl
same-bytes f g h top from (suc count) most each =
    let first : f (g from) ≡ h from = each from (omega arith) in
    let rest : flat_map f (map g (range_with_len (from + 1) count)) ≡ flat_map h (range_with_len (from + 1) count) = same-bytes f g h top (from + 1) count (omega arith) each in
    λ t. first t ++ rest t

pub record-is-pieces : RecordIsPieces
unfolding file_bytes
record-is-pieces lanes v elf input size n e ends within =
    let shards : ℕ = div_ceil n size in
    let p : Parts = record_parts lanes v elf input size n e in
    ap (λ (bytes : List ℕ). header_bytes p.header ++ p.output ++ bytes ++ table_bytes p.table)
    (same-bytes shard_bytes (shard lanes (image v elf) input size n) (λ j. (piece lanes (image v elf) input size j).bytes) shards 0 shards (omega arith)
    (λ j less. sym (pieces-are-shards lanes (image v elf) input size n j e ends within less).bytes))
