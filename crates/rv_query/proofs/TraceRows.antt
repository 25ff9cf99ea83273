-- The rows of a run's record are those of the trace, and what their accesses leave is the history of the run.
use Rattle.std.proofs.Common.{◌≡◌, ℕ, zero, suc, ◌+◌, ◌-◌, ◌*◌, ◌<◌, List, [], ◌∷◌, ◌++◌, map, refl, sym, ap, ◌∙◌, inl, inr, append_assoc, append-nil, arith}
use Rattle.std.specs.List.{flat_map, range_with_len}
use Rattle.std.specs.Int.{div_ceil}
use Rattle.std.proofs.lemmas.List.{map-append}
use Rattle.std.proofs.lemmas.Bool.{cases_lt}
use Rattle.rv_base.specs.declared.record.End.{End}
use Rattle.rv_base.specs.declared.record.Tuple.{Tuple}
use Rattle.rv_spec.specs.Elf.{Image, image}
use Rattle.rv_spec.specs.Run.{run}
use Rattle.rv_spec.specs.Cells.{time_of}
use Rattle.rv_spec.specs.Visits.{Visit, visits}
use Rattle.rv_spec.specs.Trace.{Row, tuples_left, history, access, row, rows}
use Rattle.rv_spec.specs.Digest.{Lanes}
use Rattle.rv_spec.specs.Record.{all_rows, shard, shard_rows, record_parts}
use Rattle.rv_sound.proofs.Lemmas.{shard-starts, shards-suffice, rows-split}
use Rattle.rv_query.specs.Accesses.{Numbered, own_time, numbered}
use Rattle.rv_query.proofs.Rows.{of_row}

-- ---- the rows of all shards of a record

module _ (lanes : Lanes) (i : Image) (input : List ℕ) (size n : ℕ) (some : 0 < size) where
  rows-from : (c j : ℕ) → j + c ≡ div_ceil n size → flat_map (λ s. s.rows) (map (shard lanes i input size n) (range_with_len j c)) ≡ rows i input (j * size) (n - j * size)
  rows-from zero j all =
      let same : j * size ≡ div_ceil n size * size = (let is : j ≡ div_ceil n size = omega (arith, all) in ap (λ m. m * size) is) in
      let none : n - j * size ≡ 0 = omega (arith, same, shards-suffice n size some) in
      sym (ap (rows i input (j * size)) none)
  rows-from (suc c) j all =
      let k : ℕ = j * size in
      let m : ℕ = shard_rows size n j in
      let begins : k < n = shard-starts n size j some (omega (arith, all)) in
      let next : (j + 1) * size ≡ k + size = omega arith in
      let whole : n - k ≡ m + (n - k - m) = omega (arith, begins) in
      let more : rows i input ((j + 1) * size) (n - (j + 1) * size) ≡ rows i input (k + m) (n - k - m) = elim (cases_lt n ((j + 1) * size)) [
        | inl less ↦
            let none : n - k - m ≡ 0 = omega (arith, less, next, begins) in
            let nothing : n - (j + 1) * size ≡ 0 = omega (arith, less) in
            ap (rows i input ((j + 1) * size)) nothing ∙ sym (ap (rows i input (k + m)) none)
        | inr full ↦
            let from : (j + 1) * size ≡ k + m = omega (arith, full, next, begins) in
            let left : n - (j + 1) * size ≡ n - k - m = omega (arith, full, next, begins) in
            λ t. rows i input (from t) (left t)
      ] in
      ap (λ (l : List Row). rows i input k m ++ l) (rows-from c (j + 1) (omega (arith, all)) ∙ more)
      ∙ sym (rows-split i input k m (n - k - m)) ∙ sym (ap (rows i input k) whole)

pub record-rows : (lanes : Lanes) (version : ℕ) (elf input : List ℕ) (size n : ℕ) (e : End) → 0 < size → all_rows (record_parts lanes version elf input size n e) ≡ rows (image version elf) input 0 n
record-rows lanes version elf input size n e some =
    let i : Image = image version elf in
    let from : 0 * size ≡ 0 = omega arith in
    let left : n - 0 * size ≡ n = omega arith in
    rows-from lanes i input size n some (div_ceil n size) 0 (omega arith) ∙ (λ t. rows i input (from t) (left t))

-- ---- what the accesses of the trace leave

-- what an access leaves in its cell
abbrev pub left_by : Numbered → Tuple
left_by a = record { cell = a.access.cell; value = a.access.new; time = own_time a }

visits-leave : (h : List Tuple) (k : ℕ) (vs : List Visit) → map left_by (map (λ a. record { step = k; access = a }) (map (access h k) vs)) ≡ tuples_left k vs
visits-leave h k [] = refl
visits-leave h k (v ∷ vs) = ap (λ (l : List Tuple). record { cell = v.cell; value = v.new; time = time_of k v.slot } ∷ l) (visits-leave h k vs)

module _ (i : Image) (input : List ℕ) where
  rows-leave : (c k : ℕ) → history i input k ++ map left_by (numbered k (rows i input k c)) ≡ history i input (k + c)
  unfolding history
  rows-leave zero k = let none : k ≡ k + 0 = omega arith in append-nil (history i input k) ∙ ap (history i input) none
  rows-leave (suc c) k =
      let later : List Numbered = numbered (k + 1) (rows i input (k + 1) c) in
      let left : map left_by (of_row k (row i input k)) ≡ tuples_left k (visits input (run i input k)) = visits-leave (history i input (suc k)) k (visits input (run i input k)) in
      let next : suc k ≡ k + 1 = omega arith in
      let count : k + 1 + c ≡ k + suc c = omega arith in
      ap (λ (l : List Tuple). history i input k ++ l) (map-append left_by (of_row k (row i input k)) later)
      ∙ sym (append_assoc (history i input k) (map left_by (of_row k (row i input k))) (map left_by later))
      ∙ ap (λ (l : List Tuple). history i input k ++ l ++ map left_by later) left
      ∙ ap (λ m. history i input m ++ map left_by later) next
      ∙ rows-leave c (k + 1) ∙ ap (history i input) count

  pub trace-leaves : (s : ℕ) → map left_by (numbered 0 (rows i input 0 s)) ≡ history i input s
  unfolding history
  trace-leaves s = rows-leave s 0 ∙ (let none : 0 + s ≡ s = omega arith in ap (history i input) none)
