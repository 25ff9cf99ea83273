-- The rows of all shards as one list, and shards whose rows are those of a run.
use Rattle.std.proofs.Common.{◌≡◌, ℕ, suc, ◌+◌, ◌-◌, ◌*◌, ◌<◌, ◌≤◌, List, [], ◌∷◌, ◌++◌, length, map, refl, sym, ◌∙◌, ap, subst, inl, inr, arith}
use Rattle.std.specs.List.{AllByRecursion, range_with_len, flat_map}
use Rattle.std.specs.Int.{div_ceil}
use Rattle.std.proofs.lemmas.List.{length-append}
use Rattle.std.proofs.lemmas.List.FromFn.{length-map-range_with_len}
use Rattle.std.proofs.lemmas.Bool.{cases_lt}
use Rattle.std.proofs.lemmas.Grind.{div_ceil_times}
use Rattle.rv_base.specs.declared.record.Header.{Header}
use Rattle.rv_base.specs.declared.record.Place.{Place}
use Rattle.rv_spec.specs.Elf.{Image}
use Rattle.rv_spec.specs.Trace.{Row, row, rows}
use Rattle.rv_spec.specs.Tuples.{events, tuple_read, tuple_written}
use Rattle.rv_rules.specs.RowRules.{place_after}
use Rattle.rv_spec.specs.Digest.{Lanes, digest}
use Rattle.rv_spec.specs.Record.{Shard, shard_rows, rows_length, place_at, shard}
use Rattle.rv_spec.specs.Grammar.{RowFits, ShardFits, ShardsFit}
use Rattle.rv_sound.specs.Accepted.{place_through, RowsHold, ShardHolds, ShardsHold}
use Rattle.rv_sound.proofs.ListLemmas.{all-join, length-none, rows-split, same-front}

-- ---- how many

-- shard j begins before the last step
pub shard-starts : (n size j : ℕ) → 0 < size → j < div_ceil n size → j * size < n
shard-starts n size j some less =
    let d : ℕ = div_ceil n size - (j + 1) in
    let whole : div_ceil n size ≡ j + 1 + d = omega (arith, less) in
    let times : div_ceil n size * size ≡ j * size + size + d * size = ap (λ x. x * size) whole ∙ (let spread : (j + 1 + d) * size ≡ j * size + size + d * size = omega arith in spread) in
    omega (arith, times, (div_ceil_times n size some).1)

-- as many shards as there are hold all steps
pub shards-suffice : (n size : ℕ) → 0 < size → n ≤ div_ceil n size * size
shards-suffice n size some = (div_ceil_times n size some).0

-- ---- the rows of all shards

pub through-append : (version : ℕ) (input : List ℕ) (xs ys : List Row) (p : Place) → place_through version input p (xs ++ ys) ≡ place_through version input (place_through version input p xs) ys
through-append version input [] ys p = refl
through-append version input (x ∷ xs) ys p = through-append version input xs ys (place_after version x p input)

rows-join : (h : Header) (input output : List ℕ) (xs ys : List Row) (k : ℕ) (p : Place) → RowsHold h input output k p xs → RowsHold h input output (k + length xs) (place_through h.version input p xs) ys
    → RowsHold h input output k p (xs ++ ys)
rows-join h input output [] ys k p a b = let same : k + 0 ≡ k = omega arith in subst (λ n. RowsHold h input output n p ys) same b
rows-join h input output (x ∷ xs) ys k p a b =
    let same : k + suc (length xs) ≡ k + 1 + length xs = omega arith in
    (a.0, rows-join h input output xs ys (k + 1) (place_after h.version x p input) a.1 (subst (λ n. RowsHold h input output n (place_through h.version input p (x ∷ xs)) ys) same b))

module _ (lanes : Lanes) (h : Header) (input output : List ℕ) where
  abbrev flat : List Shard → List Row
  flat ss = flat_map (λ s. s.rows) ss

  -- as many rows as are left from shard i on, which break no rule
  pub record AreRows (i : ℕ) (p : Place) (rs : List Row) : Type 0 where
    pub count : length rs ≡ h.steps - i * h.size
    pub hold : RowsHold h input output (i * h.size) p rs
    pub fit : AllByRecursion RowFits rs

  -- shards that hold, as one list of rows
  pub shards-are-rows : (ss : List Shard) (i : ℕ) (p : Place) → h.steps ≤ (i + length ss) * h.size → ShardsFit h i ss → ShardsHold lanes h input output i p ss → AreRows i p (flat ss)
  shards-are-rows [] i p most fits holds =
      let same : (i + 0) * h.size ≡ i * h.size = omega arith in
      record { count = omega (arith, most, same); hold = tt; fit = tt }
  shards-are-rows (s ∷ ss) i p most fits holds =
      let next : (i + 1) * h.size ≡ i * h.size + h.size = omega arith in
      let as_many : (i + suc (length ss)) * h.size ≡ (i + 1 + length ss) * h.size = (let n : i + suc (length ss) ≡ i + 1 + length ss = omega arith in ap (λ m. m * h.size) n) in
      let rest : AreRows (i + 1) (place_through h.version input p s.rows) (flat ss) = shards-are-rows ss (i + 1) (place_through h.version input p s.rows) (omega (arith, most, as_many)) fits.1 holds.1 in
      let count : length s.rows ≡ shard_rows h.size h.steps i = fits.0.count ∙ fits.0.rows in
      let later : RowsHold h input output (i * h.size + length s.rows) (place_through h.version input p s.rows) (flat ss) = elim (cases_lt h.steps ((i + 1) * h.size)) [
        | inl less ↦
            let none : flat ss ≡ [] = length-none (flat ss) (omega (arith, rest.count, less)) in
            subst (λ (rs : List Row). RowsHold h input output (i * h.size + length s.rows) (place_through h.version input p s.rows) rs) (sym none) tt
        | inr full ↦
            let same : (i + 1) * h.size ≡ i * h.size + length s.rows = omega (arith, next, count, full) in
            subst (λ n. RowsHold h input output n (place_through h.version input p s.rows) (flat ss)) same rest.hold
      ] in
      record {
        count = length-append s.rows (flat ss) ∙ omega (arith, count, rest.count, next);
        hold = rows-join h input output s.rows (flat ss) (i * h.size) p holds.0.rows later;
        fit = all-join RowFits s.rows (flat ss) fits.0.each rest.fit;
      }

  -- ---- the shards

  -- shard j, whose rows and place are those of the run
  one-shard : (m : Image) (s : Shard) (j n : ℕ) (p : Place) → p ≡ place_at m input (j * h.size) → s.rows ≡ rows m input (j * h.size) n → n ≡ shard_rows h.size h.steps j → ShardFits h j s → ShardHolds lanes h input output (j * h.size) p s
      → s ≡ shard lanes m input h.size h.steps j
  one-shard m s j n p at same count fits holds =
      let k : ℕ = j * h.size in
      let own : s.rows ≡ rows m input k (shard_rows h.size h.steps j) = same ∙ ap (rows m input k) count in
      λ t. record {
        head = record {
          index = fits.index t;
          rows = fits.rows t;
          pc = (holds.pc ∙ ap (λ (q : Place). q.pc) at) t;
          input = (holds.taken ∙ ap (λ (q : Place). q.input) at) t;
          output = (holds.put ∙ ap (λ (q : Place). q.output) at) t;
          bytes = (fits.bytes ∙ ap rows_length own) t;
        };
        rows = own t;
        reads = (holds.reads ∙ ap (λ (rs : List Row). digest lanes (map tuple_read (events k rs))) own) t;
        writes = (holds.writes ∙ ap (λ (rs : List Row). digest lanes (map tuple_written (events k rs))) own) t;
      }

  -- shards from shard j on, whose rows are those of the run
  pub shards-are : (m : Image) (count : ℕ) → ((a b : ℕ) → a + b ≤ h.steps → place_through h.version input (place_at m input a) (rows m input a b) ≡ place_at m input (a + b))
      → ((j : ℕ) → j < count → j * h.size < h.steps)
      → (ss : List Shard) (j : ℕ) (p : Place) → j + length ss ≡ count → (j < count → p ≡ place_at m input (j * h.size))
      → flat ss ≡ rows m input (j * h.size) (h.steps - j * h.size) → ShardsFit h j ss → ShardsHold lanes h input output j p ss
      → ss ≡ map (shard lanes m input h.size h.steps) (range_with_len j (length ss))
  shards-are m count places starts [] j p all at same fits holds = refl
  shards-are m count places starts (s ∷ ss) j p all at same fits holds =
      let k : ℕ = j * h.size in
      let inside : j < count = omega (arith, all) in
      let begins : k < h.steps = starts j inside in
      let n : ℕ = shard_rows h.size h.steps j in
      let next : (j + 1) * h.size ≡ k + h.size = omega arith in
      let size : length s.rows ≡ n = fits.0.count ∙ fits.0.rows in
      let whole : h.steps - k ≡ n + (h.steps - k - n) = omega (arith, begins) in
      let split : s.rows ++ flat ss ≡ rows m input k n ++ rows m input (k + n) (h.steps - k - n) = same ∙ ap (rows m input k) whole ∙ rows-split m input k n (h.steps - k - n) in
      let parts = same-front s.rows (flat ss) (rows m input k n) (rows m input (k + n) (h.steps - k - n)) (size ∙ sym (length-map-range_with_len (row m input) k n)) split in
      let later : flat ss ≡ rows m input ((j + 1) * h.size) (h.steps - (j + 1) * h.size) = parts.1 ∙ elim (cases_lt h.steps ((j + 1) * h.size)) [
        | inl less ↦
            let none : h.steps - k - n ≡ 0 = omega (arith, less, next, begins) in
            let nothing : h.steps - (j + 1) * h.size ≡ 0 = omega (arith, less) in
            ap (rows m input (k + n)) none ∙ sym (ap (rows m input ((j + 1) * h.size)) nothing)
        | inr full ↦
            let from : k + n ≡ (j + 1) * h.size = omega (arith, full, next, begins) in
            let left : h.steps - k - n ≡ h.steps - (j + 1) * h.size = omega (arith, full, next, begins) in
            λ t. rows m input (from t) (left t)
      ] in
      let after : j + 1 < count → place_through h.version input p s.rows ≡ place_at m input ((j + 1) * h.size) = λ more. (
      let full : (j + 1) * h.size < h.steps = starts (j + 1) more in
      let to : k + n ≡ (j + 1) * h.size = omega (arith, full, next, begins) in
      let within : k + n ≤ h.steps = omega (arith, full, to) in
      (λ t. place_through h.version input (at inside t) (parts.0 t)) ∙ places k n within ∙ ap (place_at m input) to
      ) in
      let first : s ≡ shard lanes m input h.size h.steps j = one-shard m s j n p (at inside) parts.0 refl fits.0 holds.0 in
      let rest = shards-are m count places starts ss (j + 1) (place_through h.version input p s.rows) (omega (arith, all)) after later fits.1 holds.1 in
      λ t. first t ∷ rest t
