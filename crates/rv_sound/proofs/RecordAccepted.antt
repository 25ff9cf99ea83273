-- The parts of a run's record are those of an accepted file.
use Rattle.std.proofs.Common.{◌≡◌, ℕ, zero, suc, ◌+◌, ◌-◌, ◌*◌, ◌^◌, ◌<◌, ◌≤◌, List, ◌++◌, length, map, refl, sym, ◌∙◌, ap, subst, inl, inr, arith, mod-lt, lit<}
use Rattle.std.specs.List.{AllByRecursion, range_with_len, flat_map}
use Rattle.std.specs.Int.{div_ceil, IsInRange}
use Rattle.std.proofs.lemmas.List.{length-append}
use Rattle.std.proofs.lemmas.List.FromFn.{length-map-range_with_len}
use Rattle.std.proofs.lemmas.Bool.{cases_lt}
use Rattle.std.specs.Int.{to_be_bytes, w64}
use Rattle.sha2.specs.Sha512.{sha512, digest_bytes, final_hash, initial_hash_512}
use Rattle.sha2.proofs.Facts512.{length-sha512}
use Rattle.rv_base.specs.declared.record.End.{End}
use Rattle.rv_base.specs.declared.record.Header.{Header}
use Rattle.rv_base.specs.declared.record.Place.{Place}
use Rattle.rv_base.specs.declared.record.Tuple.{Tuple}
use Rattle.rv_spec.specs.Words.{AreBytes}
use Rattle.rv_spec.specs.Elf.{Image, image}
use Rattle.rv_spec.specs.Run.{run, EndsIn}
use Rattle.rv_spec.specs.Cells.{initial_value, time_of}
use Rattle.rv_spec.specs.Trace.{Row, row, rows, table}
use Rattle.rv_spec.specs.Tuples.{events, tuple_read, tuple_written, all_read, all_written}
use Rattle.rv_spec.specs.Digest.{Lanes, digest, digest_lane, lane_numbers}
use Rattle.std.specs.Prelude.{sum_by, slice_index}
use Rattle.rv_rules.proofs.Lemmas.{all-of, digest-same}
use Rattle.rv_spec.specs.Multiset.{Same}
use Rattle.rv_spec.specs.Record.{Shard, reads, writes, shard_rows, place_at, shard, header, record_parts, record_file}
use Rattle.rv_spec.specs.Conclusion.{HasRecord}
use Rattle.rv_spec.specs.Grammar.{AreNumbers, RowFits, ShardsFit, Spells}
use Rattle.rv_rules.specs.Chain.{AreOrdered}
use Rattle.rv_rules.specs.Agreement.{IsState}
use Rattle.rv_elf.proofs.Lemmas.{image-is-program}
use Rattle.rv_isa.specs.Ranges.{EndFits, StepFits}
use Rattle.rv_isa.proofs.Lemmas.{runs-are-states, runs-fit}
use Rattle.rv_sound.specs.Accepted.{place_through, RowsHold, ShardsHold, entry_place, IsAccepted}
use Rattle.rv_sound.proofs.Parts.{first-place-is}
use Rattle.rv_sound.proofs.Shards.{shard-starts, shards-suffice}
use Rattle.rv_sound.proofs.RowRanges.{row-fits}
use Rattle.rv_sound.proofs.RowsOfRun.{output-grows, rows-hold, rows-lead}
use Rattle.rv_sound.proofs.ChainOfRun.{run-same, run-ordered}
use Rattle.rv_sound.proofs.ListLemmas.{all-join, all-map, rows-split}
use Rattle.rv_sound.proofs.TableRanges.{entries-fit, entries-count}

-- the bytes of a hash are bytes
word-bytes : (n : ℕ) → AreBytes (to_be_bytes w64 n)
word-bytes n = (omega arith, (omega arith, (omega arith, (omega arith, (omega arith, (omega arith, (omega arith, (omega arith, tt))))))))

digest-bytes-fit : (h : List ℕ) (n : ℕ) → AreBytes (digest_bytes h n)
unfolding digest_bytes
digest-bytes-fit h zero = tt
digest-bytes-fit h (suc n) = all-join (λ x. x < 2 ^ 8) (digest_bytes h n) (to_be_bytes w64 (slice_index h n)) (digest-bytes-fit h n) (word-bytes (slice_index h n))

hash-bytes : (x : List ℕ) → AreBytes (sha512 x)
unfolding sha512
hash-bytes x = digest-bytes-fit (final_hash initial_hash_512 x) 8

digest-fits : (lanes : Lanes) (ts : List Tuple) → AreNumbers 16 64 (digest lanes ts)
unfolding digest_lane
digest-fits lanes ts =
    let lane : (j : ℕ) → digest_lane lanes ts j < 2 ^ 64 = λ j. mod-lt (sum_by (λ t. slice_index (lanes t) j) ts) (lit< tt) in
    (refl, all-map (λ x. x < 2 ^ 64) (digest_lane lanes ts) lane_numbers (all-of (λ j. digest_lane lanes ts j < 2 ^ 64) lane_numbers (λ j m. lane j)))

run-rows : (i : Image) (input : List ℕ) (states : (n : ℕ) → IsState (run i input n)) (ranges : (n : ℕ) → StepFits i input n) (c k : ℕ) → k + c ≤ 2 ^ 59 → AllByRecursion RowFits (rows i input k c)
run-rows i input states ranges zero k within = tt
run-rows i input states ranges (suc c) k within = (row-fits i input states ranges k (omega (arith, within)), run-rows i input states ranges c (k + 1) (omega (arith, within)))

module _ (lanes : Lanes) (h : Header) (i : Image) (input : List ℕ) (version : i.version ≡ h.version) (states : (n : ℕ) → IsState (run i input n) × ((run i input n).position ≤ length input)) (ranges : (n : ℕ) → StepFits i input n)
    (ends : EndsIn i input h.steps h.end) (small : h.steps < 2 ^ 59) (size : 0 < h.size) (starts : (j : ℕ) → j < div_ceil h.steps h.size → j * h.size < h.steps) (most : length (run i input h.steps).output ≤ 67108864) where
  abbrev out : List ℕ
  out = (run i input h.steps).output

  abbrev shards : ℕ → ℕ → List Shard
  shards j c = map (shard lanes i input h.size h.steps) (range_with_len j c)

  -- the shards hold, each from its place of the run
  run-shards : (c j : ℕ) (p : Place) → j + c ≤ div_ceil h.steps h.size → (0 < c → p ≡ place_at i input (j * h.size)) → ShardsHold lanes h input out j p (shards j c)
  run-shards zero j p within at = tt
  run-shards (suc c) j p within at =
      let k : ℕ = j * h.size in
      let n : ℕ = shard_rows h.size h.steps j in
      let begins : k < h.steps = starts j (omega (arith, within)) in
      let here : p ≡ place_at i input k = at (omega arith) in
      let next : (j + 1) * h.size ≡ k + h.size = omega arith in
      let hold : RowsHold h input out k (place_at i input k) (rows i input k n) = rows-hold h i input version states ends n k (omega (arith, begins)) in
      let leads : place_through h.version input p (rows i input k n) ≡ place_at i input (k + n) = ap (λ (q : Place). place_through h.version input q (rows i input k n)) here ∙ rows-lead h i input version states ends n k in (
        record {
          pc = ap (λ (q : Place). q.pc) (sym here);
          taken = ap (λ (q : Place). q.input) (sym here);
          put = ap (λ (q : Place). q.output) (sym here);
          rows = subst (λ (q : Place). RowsHold h input out k q (rows i input k n)) (sym here) hold;
          reads = refl;
          writes = refl;
        },
        run-shards c (j + 1) (place_through h.version input p (rows i input k n)) (omega (arith, within))
            (λ more. leads ∙ ap (place_at i input) (let full : (j + 1) * h.size < h.steps = starts (j + 1) (omega (arith, within, more)) in let same : k + n ≡ (j + 1) * h.size = omega (arith, full, next) in same)),
      )

  output-below : (k : ℕ) → k ≤ h.steps → length (run i input k).output < 2 ^ 64
  output-below k within =
      let later = output-grows h i input version states ends k (h.steps - k) in
      let whole : k + (h.steps - k) ≡ h.steps = omega (arith, within) in
      let is : length (run i input h.steps).output ≡ length (run i input k).output + length later.0 = ap (λ n. length (run i input n).output) (sym whole) ∙ ap length later.1 ∙ length-append (run i input k).output later.0 in
      omega (arith, is, most)

  -- the shards have the ranges of the grammar
  shards-fit : (c j : ℕ) → j + c ≤ div_ceil h.steps h.size → ShardsFit h j (shards j c)
  shards-fit zero j within = tt
  shards-fit (suc c) j within =
      let k : ℕ = j * h.size in
      let n : ℕ = shard_rows h.size h.steps j in
      let begins : k < h.steps = starts j (omega (arith, within)) in (
        record {
          index = refl;
          rows = refl;
          count = length-map-range_with_len (row i input) k n;
          bytes = refl;
          pc = (states k).0.pc;
          input = omega (arith, (ranges k).taken, small, begins);
          output = output-below k (omega (arith, begins));
          each = run-rows i input (λ m. (states m).0) ranges n k (omega (arith, small, begins));
          reads = digest-fits lanes (map tuple_read (events k (rows i input k n)));
          writes = digest-fits lanes (map tuple_written (events k (rows i input k n)));
        },
        shards-fit c (j + 1) (omega (arith, within)),
      )

  -- the rows of all shards are those of the run
  all-run-rows : (c j : ℕ) → j + c ≡ div_ceil h.steps h.size → h.steps ≤ div_ceil h.steps h.size * h.size → flat_map (λ s. s.rows) (shards j c) ≡ rows i input (j * h.size) (h.steps - j * h.size)
  all-run-rows zero j all enough =
      let same : j * h.size ≡ div_ceil h.steps h.size * h.size = (let is : j ≡ div_ceil h.steps h.size = omega (arith, all) in ap (λ m. m * h.size) is) in
      let none : h.steps - j * h.size ≡ 0 = omega (arith, same, enough) in
      sym (ap (rows i input (j * h.size)) none)
  all-run-rows (suc c) j all enough =
      let k : ℕ = j * h.size in
      let n : ℕ = shard_rows h.size h.steps j in
      let begins : k < h.steps = starts j (omega (arith, all)) in
      let next : (j + 1) * h.size ≡ k + h.size = omega arith in
      let whole : h.steps - k ≡ n + (h.steps - k - n) = omega (arith, begins) in
      let more : rows i input ((j + 1) * h.size) (h.steps - (j + 1) * h.size) ≡ rows i input (k + n) (h.steps - k - n) = elim (cases_lt h.steps ((j + 1) * h.size)) [
        | inl less ↦
            let none : h.steps - k - n ≡ 0 = omega (arith, less, next, begins) in
            let nothing : h.steps - (j + 1) * h.size ≡ 0 = omega (arith, less) in
            ap (rows i input ((j + 1) * h.size)) nothing ∙ sym (ap (rows i input (k + n)) none)
        | inr full ↦
            let from : (j + 1) * h.size ≡ k + n = omega (arith, full, next, begins) in
            let left : h.steps - (j + 1) * h.size ≡ h.steps - k - n = omega (arith, full, next, begins) in
            λ t. rows i input (from t) (left t)
      ] in
      ap (λ (l : List Row). rows i input k n ++ l) (all-run-rows c (j + 1) (omega (arith, all)) enough ∙ more)
      ∙ sym (rows-split i input k n (h.steps - k - n)) ∙ sym (ap (rows i input k) whole)

-- ---- the record

few-steps : (n size : ℕ) → IsInRange 1 65536 size → div_ceil n size ≤ 65536 → n ≤ 2 ^ 32
few-steps n size range few =
    let d : ℕ = 65536 - div_ceil n size in
    let whole : 65536 ≡ div_ceil n size + d = omega (arith, few) in
    let times : 65536 * size ≡ div_ceil n size * size + d * size = ap (λ x. x * size) whole ∙ (let spread : (div_ceil n size + d) * size ≡ div_ceil n size * size + d * size = omega arith in spread) in
    omega (arith, times, range.1, shards-suffice n size (omega (arith, range.0)))

-- the parts of a record are accepted
pub record-accepted : (lanes : Lanes) (version : ℕ) (elf input : List ℕ) (size n : ℕ) (e : End) → AreBytes elf → AreBytes input → HasRecord version elf input size n e
    → IsAccepted lanes elf input (record_parts lanes version elf input size n e)
unfolding reads writes
record-accepted lanes version elf input size n e bytes input_bytes has =
    let i : Image = image version elf in
    let h : Header = header version elf input size n e in
    let d : ℕ = div_ceil n size in
    let states = runs-are-states i input (image-is-program version elf bytes has.faultless) input_bytes in
    let only : (k : ℕ) → IsState (run i input k) = λ k. (states k).0 in
    let ranges : (k : ℕ) → StepFits i input k = runs-fit i input (image-is-program version elf bytes has.faultless) input_bytes in
    let some : 0 < size = omega (arith, has.size_within.0) in
    let few : n ≤ 2 ^ 32 = few-steps n size has.size_within has.shards_within in
    let small : n < 2 ^ 59 = omega (arith, few) in
    let starts : (j : ℕ) → j < d → j * size < n = λ j. shard-starts n size j some in
    let fits : (k c : ℕ) → k + c ≤ n → AllByRecursion RowFits (rows i input k c) = λ k c within. run-rows i input only ranges c k (omega (arith, within, few)) in
    let o : AreOrdered (events 0 (rows i input 0 n)) (table i input n) (time_of n 0) = run-ordered h i input refl states has.ends fits in
    let same : Same (all_read (events 0 (rows i input 0 n)) (table i input n)) (all_written (initial_value i) (events 0 (rows i input 0 n)) (table i input n)) = run-same h i input refl states has.ends fits in
    let from : 0 * size ≡ 0 = omega arith in
    let left : n - 0 * size ≡ n = omega arith in
    let none : 0 + d ≡ d = omega arith in
    let within : 0 + d ≤ d = omega arith in
    let rs : List Row = flat_map (λ s. s.rows) (map (shard lanes i input size n) (range_with_len 0 d)) in
    let all : rs ≡ rows i input 0 n = all-run-rows lanes h i input refl states ranges has.ends small some starts has.output_within d 0 none (shards-suffice n size some) ∙ (λ t. rows i input (from t) (left t)) in
    let first : entry_place elf ≡ place_at i input 0 = first-place-is elf input version in
    let to : 0 + n ≡ n = omega arith in
    let place : place_through version input (entry_place elf) rs ≡ place_at i input n = (λ t. place_through version input (first t) (all t)) ∙ rows-lead h i input refl states has.ends n 0 ∙ ap (place_at i input) to in
    let end : EndFits e = (ranges (n - 1)).ends e has.ends.last in
    record {
      fit = record {
        header = record {
          version = has.version_within;
          elf = (length-sha512 elf, hash-bytes elf);
          input = (length-sha512 input, hash-bytes input);
          size = has.size_within;
          steps = (has.ends.some, omega (arith, few));
          shards = refl;
          shards_within = has.shards_within;
          kind = end.kind;
          code = end.code;
          code_of_exit = end.code_of_exit;
          consumed = omega (arith, few, (ranges n).taken);
          length = has.output_within;
        };
        output = (refl, (ranges n).put);
        count = length-map-range_with_len (shard lanes i input size n) 0 d;
        shards = shards-fit lanes h i input refl states ranges has.ends small some starts has.output_within d 0 within;
        entries = entries-fit i input n has.ends.some small ranges (events 0 (rows i input 0 n)) o;
        rising = o.rising;
        table = entries-count i input n has.ends.some small ranges (events 0 (rows i input 0 n)) o;
      };
      elf_hash = refl;
      input_hash = refl;
      shards = run-shards lanes h i input refl states ranges has.ends small some starts has.output_within d 0 (entry_place elf) within (λ more. first ∙ ap (place_at i input) (sym from));
      taken = ap (λ (p : Place). p.input) place;
      put = ap (λ (p : Place). p.output) place;
      balance = digest-same lanes _ _ (subst (λ (l : List Row). Same (all_read (events 0 l) (table i input n)) (all_written (initial_value i) (events 0 l) (table i input n))) (sym all) same);
    }

-- and the record is their spelling
pub record-spells : (lanes : Lanes) (version : ℕ) (elf input : List ℕ) (size n : ℕ) (e : End) → AreBytes elf → AreBytes input → HasRecord version elf input size n e
    → Spells (record_parts lanes version elf input size n e) (record_file lanes version elf input size n e)
record-spells lanes version elf input size n e bytes input_bytes has = record { fit = (record-accepted lanes version elf input size n e bytes input_bytes has).fit; is = refl }
