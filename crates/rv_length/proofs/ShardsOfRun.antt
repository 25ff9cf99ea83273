-- The shards of a run have a head and two digests each, and for each step a row of at most seven accesses.
use Rattle.std.proofs.Common.{◌≡◌, ℕ, zero, suc, ◌+◌, ◌-◌, ◌*◌, ◌≤◌, List, ◌++◌, length, map, refl, arith, length-append}
use Rattle.std.specs.List.{flat_map, range_with_len}
use Rattle.std.proofs.lemmas.List.{length-map}
use Rattle.rv_base.specs.declared.record.Tuple.{Tuple}
use Rattle.rv_spec.specs.Elf.{Image}
use Rattle.rv_spec.specs.Step.{State}
use Rattle.rv_spec.specs.Run.{run, next_state}
use Rattle.rv_spec.specs.Digest.{Lanes, digest, set_digest_bytes}
use Rattle.rv_spec.specs.Tuples.{events, tuple_read, tuple_written}
use Rattle.rv_spec.specs.Visits.{Use, visit, visits, step_uses}
use Rattle.rv_spec.specs.Trace.{access, history, row, rows}
use Rattle.rv_spec.specs.Record.{Shard, head_bytes, row_bytes, shard_bytes, row_length, rows_length, shard_of, shard, shard_rows}
use Rattle.rv_file.proofs.Lemmas.{length-head_bytes, length-rows}
use Rattle.rv_length.specs.Lengths.{row_bound, shards_bound}
use Rattle.rv_length.proofs.SlotsOfStep.{step-at-most}

-- ---- rows

row-at-most : (i : Image) (input : List ℕ) (k : ℕ) → row_length (row i input k) ≤ row_bound
unfolding visits
row-at-most i input k =
    let s : State = run i input k in
    let us : List Use = step_uses input s in
    let size : length (map (access (history i input (suc k)) k) (map (visit s (next_state input s)) us)) ≡ length us = simp length-map in
    omega (arith, size, step-at-most input s)

rows-at-most : (i : Image) (input : List ℕ) (n k : ℕ) → rows_length (rows i input k n) ≤ n * row_bound
rows-at-most i input zero k = omega arith
rows-at-most i input (suc n) k = omega (arith, row-at-most i input k, rows-at-most i input n (k + 1))

-- ---- shards

digest-length : (lanes : Lanes) (ts : List Tuple) → length (set_digest_bytes (digest lanes ts)) ≡ 128
digest-length lanes ts = refl

shard-at-most : (lanes : Lanes) (i : Image) (input : List ℕ) (j k n : ℕ) → length (shard_bytes (shard_of lanes i input j k n)) ≤ 288 + n * row_bound
unfolding shard_bytes
shard-at-most lanes i input j k n =
    let s : Shard = shard_of lanes i input j k n in
    let lines : List ℕ = flat_map row_bytes s.rows in
    let reads : List ℕ = set_digest_bytes s.reads in
    let writes : List ℕ = set_digest_bytes s.writes in
    let reads_length : length reads ≡ 128 = digest-length lanes (map tuple_read (events k s.rows)) in
    let writes_length : length writes ≡ 128 = digest-length lanes (map tuple_written (events k s.rows)) in
    omega (
      arith,
      length-append (head_bytes s.head) lines,
      length-append (head_bytes s.head ++ lines) reads,
      length-append (head_bytes s.head ++ lines ++ reads) writes,
      length-head_bytes s.head,
      length-rows s.rows,
      rows-at-most i input n k,
      reads_length,
      writes_length,
    )

module _ (lanes : Lanes) (i : Image) (input : List ℕ) (size n : ℕ) where
  abbrev pub shards_from : ℕ → ℕ → List Shard
  shards_from j c = map (shard lanes i input size n) (range_with_len j c)

  -- from shard j on no more rows are left than steps behind its first
  shards-left : (c j : ℕ) → length (flat_map shard_bytes (shards_from j c)) ≤ c * 288 + (n - j * size) * row_bound
  shards-left zero j = omega arith
  shards-left (suc c) j =
      let first : Shard = shard lanes i input size n j in
      let m : ℕ = shard_rows size n j in
      let next : (j + 1) * size ≡ j * size + size = omega arith in
      let left : m + (n - (j + 1) * size) ≤ n - j * size = omega (arith, next) in
      omega (
        arith,
        length-append (shard_bytes first) (flat_map shard_bytes (shards_from (j + 1) c)),
        shard-at-most lanes i input j (j * size) m,
        shards-left c (j + 1),
        left,
      )

  pub shards-at-most : (c : ℕ) → length (flat_map shard_bytes (shards_from 0 c)) ≤ shards_bound n c
  shards-at-most c = omega (arith, shards-left c 0)
