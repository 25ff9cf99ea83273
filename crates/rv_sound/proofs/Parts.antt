-- The parts of an accepted file whose reads and writes are one multiset are those of the run's record.
use Rattle.std.proofs.Common.{◌≡◌, ◌≢◌, ℕ, ◌+◌, ◌-◌, ◌*◌, ◌<◌, ◌≤◌, List, [], ◌++◌, length, map, Some, None, refl, sym, ◌∙◌, ap, subst, arith, append-nil}
use Rattle.std.specs.List.{range_with_len}
use Rattle.std.specs.Int.{div_ceil}
use Rattle.std.proofs.lemmas.List.{length-append}
use Rattle.std.proofs.lemmas.List.FromFn.{length-map-range_with_len}
use Rattle.rv_base.specs.declared.record.Header.{Header}
use Rattle.rv_base.specs.declared.record.Place.{Place}
use Rattle.rv_spec.specs.Words.{AreBytes}
use Rattle.rv_spec.specs.Elf.{Image, image, first_fault}
use Rattle.rv_spec.specs.Step.{State}
use Rattle.rv_spec.specs.Run.{run, end_at, EndsIn}
use Rattle.rv_spec.specs.Cells.{initial_value, time_of}
use Rattle.rv_spec.specs.Trace.{Row, row, rows, history, table_of, table}
use Rattle.rv_spec.specs.Tuples.{Event, events, tuple_written}
use Rattle.rv_spec.specs.Digest.{Lanes}
use Rattle.rv_spec.specs.Multiset.{Same}
use Rattle.rv_spec.specs.Record.{Parts, all_rows, reads, writes, place_at, shard, record_parts}
use Rattle.rv_spec.specs.Conclusion.{HasRecord}
use Rattle.rv_spec.specs.Grammar.{EntryFits}
use Rattle.rv_rules.specs.Chain.{AreOrdered, IsChain}
use Rattle.rv_rules.proofs.Lemmas.{chain}
use Rattle.rv_elf.proofs.Lemmas.{image-is-program}
use Rattle.rv_isa.proofs.Lemmas.{holds-last-uses, runs-are-states}
use Rattle.rv_sound.specs.Accepted.{place_through, RowsHold, entry_place, IsAccepted}
use Rattle.rv_sound.proofs.Ordered.{ordered}
use Rattle.rv_sound.proofs.Runs.{AreStepRows, rows-are-steps}
use Rattle.rv_sound.proofs.ListLemmas.{length-none, rows-split, all-weaken}
use Rattle.rv_sound.proofs.Shards.{AreRows, shards-are-rows, shards-are, shard-starts, shards-suffice, through-append}

-- the parts are those of a run's record, and there is one
pub record IsRecordOf (lanes : Lanes) (elf input : List ℕ) (parts : Parts) : Type 0 where
  pub has : HasRecord parts.header.version elf input parts.header.size parts.header.steps parts.header.end
  pub is : parts ≡ record_parts lanes parts.header.version elf input parts.header.size parts.header.steps parts.header.end

-- what the run makes of the rows
record RunFacts (m : Image) (input : List ℕ) (parts : Parts) : Type 0 where
  pub are : all_rows parts ≡ rows m input 0 parts.header.steps
  pub places : (xs ys : List Row) → all_rows parts ≡ xs ++ ys → place_through parts.header.version input (place_at m input 0) xs ≡ place_at m input (0 + length xs)
  pub hist : map tuple_written (events 0 (all_rows parts)) ≡ history m input parts.header.steps
  pub put : (rest : List ℕ) × (parts.output ≡ (run m input parts.header.steps).output ++ rest)
  pub goes_on : (j : ℕ) → j < parts.header.steps → j + 1 ≢ parts.header.steps → end_at m input j ≡ None
  pub last : (j : ℕ) → j < parts.header.steps → j + 1 ≡ parts.header.steps → end_at m input j ≡ Some parts.header.end
  pub table : parts.table ≡ table_of (map tuple_written (events 0 (all_rows parts))) (time_of parts.header.steps 0)

-- the place before the first step is that of the run
pub first-place-is : (elf input : List ℕ) (version : ℕ) → entry_place elf ≡ place_at (image version elf) input 0
unfolding run
first-place-is elf input version = refl

run-facts : (lanes : Lanes) (elf input : List ℕ) (parts : Parts) → first_fault elf ≡ None → AreBytes elf → AreBytes input → IsAccepted lanes elf input parts
    → Same (reads parts) (writes (image parts.header.version elf) parts) → RunFacts (image parts.header.version elf) input parts
unfolding reads writes run history
run-facts lanes elf input parts faultless bytes input_bytes a same =
    let h : Header = parts.header in
    let m : Image = image h.version elf in
    let n : ℕ = h.steps in
    let rs : List Row = all_rows parts in
    let es : List Event = events 0 rs in
    let size_some : 0 < h.size = omega (arith, a.fit.header.size.0) in
    let steps_some : 0 < n = omega (arith, a.fit.header.steps.0) in
    let all : n ≤ (0 + length parts.shards) * h.size = (
    let count : 0 + length parts.shards ≡ div_ceil n h.size = omega (arith, a.fit.count, a.fit.header.shards) in
    subst (λ x. n ≤ x * h.size) (sym count) (shards-suffice n h.size size_some)
    ) in
    let flat_rows : AreRows lanes h input parts.output 0 (entry_place elf) rs = shards-are-rows lanes h input parts.output parts.shards 0 (entry_place elf) all a.fit.shards a.shards in
    let count : length rs ≡ n = omega (arith, flat_rows.count) in
    let hold : RowsHold h input parts.output 0 (entry_place elf) rs = subst (λ k. RowsHold h input parts.output k (entry_place elf) rs) (let none : 0 * h.size ≡ 0 = omega arith in none) flat_rows.hold in
    let o : AreOrdered es parts.table (time_of n 0) = ordered h input parts.output rs n (entry_place elf) parts.table hold flat_rows.fit count
    (all-weaken (EntryFits h.version) (λ t. 0 < t.time) (λ t f. omega (arith, f.time.0)) parts.table a.fit.entries) a.fit.rising in
    let c : IsChain (initial_value m) es parts.table (time_of n 0) = chain (initial_value m) es parts.table (time_of n 0) o same in
    let states = runs-are-states m input (image-is-program h.version elf bytes faultless) input_bytes in
    let r : AreStepRows h m input parts.output refl (λ k. (states k).0) (holds-last-uses m input) es parts.table (time_of n 0) o c 0 rs =
    rows-are-steps h m input parts.output refl (λ k. (states k).0) (holds-last-uses m input) es parts.table (time_of n 0) o c rs 0 [] refl refl tt hold flat_rows.fit (parts.output, refl) in
    let all_steps : 0 + length rs ≡ n = omega (arith, count) in
    record {
      are = r.are ∙ ap (rows m input 0) count;
      places = r.places;
      hist = r.hist ∙ ap (history m input) all_steps;
      put = (r.put.0, r.put.1 ∙ ap (λ k. (run m input k).output ++ r.put.0) all_steps);
      goes_on = λ j less. r.goes_on j (omega arith) (omega (arith, less, all_steps));
      last = λ j less. r.last j (omega arith) (omega (arith, less, all_steps));
      table = c.last;
    }

-- the part of an output that is as long as the whole
whole : (xs ys : List ℕ) → length (xs ++ ys) ≡ length xs → xs ++ ys ≡ xs
whole xs ys e = ap (λ (l : List ℕ). xs ++ l) (length-none ys (omega (arith, e, length-append xs ys))) ∙ append-nil xs

run-places : (version : ℕ) (m : Image) (input : List ℕ) (n : ℕ) → ((xs ys : List Row) → rows m input 0 n ≡ xs ++ ys → place_through version input (place_at m input 0) xs ≡ place_at m input (0 + length xs))
    → (a b : ℕ) → a + b ≤ n → place_through version input (place_at m input a) (rows m input a b) ≡ place_at m input (a + b)
run-places version m input n places a b within =
    let front : (c : ℕ) → c ≤ n → place_through version input (place_at m input 0) (rows m input 0 c) ≡ place_at m input c = λ c h. (
    let split : n ≡ c + (n - c) = omega (arith, h) in
    let same : 0 + length (rows m input 0 c) ≡ c = omega (arith, length-map-range_with_len (row m input) 0 c) in
    places (rows m input 0 c) (rows m input (0 + c) (n - c)) (ap (rows m input 0) split ∙ rows-split m input 0 c (n - c)) ∙ ap (place_at m input) same
    ) in
    let from : 0 + a ≡ a = omega arith in
    let joined : rows m input 0 (a + b) ≡ rows m input 0 a ++ rows m input a b = rows-split m input 0 a b ∙ ap (λ k. rows m input 0 a ++ rows m input k b) from in
    ap (λ (p : Place). place_through version input p (rows m input a b)) (sym (front a (omega (arith, within))))
    ∙ sym (through-append version input (rows m input 0 a) (rows m input a b) (place_at m input 0))
    ∙ ap (place_through version input (place_at m input 0)) (sym joined) ∙ front (a + b) within

record-of : (lanes : Lanes) (elf input : List ℕ) (parts : Parts) → first_fault elf ≡ None → IsAccepted lanes elf input parts → RunFacts (image parts.header.version elf) input parts → IsRecordOf lanes elf input parts
unfolding table
record-of lanes elf input parts faultless a r =
    let h : Header = parts.header in
    let m : Image = image h.version elf in
    let n : ℕ = h.steps in
    let size_some : 0 < h.size = omega (arith, a.fit.header.size.0) in
    let steps_some : 0 < n = omega (arith, a.fit.header.steps.0) in
    let state : State = run m input n in
    let first : entry_place elf ≡ place_at m input 0 = first-place-is elf input h.version in
    let counted : 0 + length (all_rows parts) ≡ n = (let same : 0 + length (all_rows parts) ≡ length (all_rows parts) = omega arith in same ∙ ap length r.are ∙ length-map-range_with_len (row m input) 0 n) in
    let end_place : place_through h.version input (entry_place elf) (all_rows parts) ≡ place_at m input n =
    ap (λ (p : Place). place_through h.version input p (all_rows parts)) first ∙ r.places (all_rows parts) [] (sym (append-nil (all_rows parts))) ∙ ap (place_at m input) counted in
    let put : length state.output ≡ h.length = sym (ap (λ (p : Place). p.output) end_place) ∙ a.put in
    let taken : state.position ≡ h.consumed = sym (ap (λ (p : Place). p.input) end_place) ∙ a.taken in
    let output : parts.output ≡ state.output = r.put.1 ∙ whole state.output r.put.0 (sym (ap length r.put.1) ∙ a.fit.output.0 ∙ sym put) in
    let ends : EndsIn m input n h.end = record {
      some = steps_some;
      before = λ k less. r.goes_on k (omega (arith, less)) (λ e. absurd (omega (arith, less, e)));
      last = r.last (n - 1) (omega (arith, steps_some)) (omega (arith, steps_some));
    } in
    let places = run-places h.version m input n (λ xs ys e. r.places xs ys (r.are ∙ e)) in
    let from : 0 * h.size ≡ 0 = omega arith in
    let none : n - 0 * h.size ≡ n = omega arith in
    let all : 0 + length parts.shards ≡ div_ceil n h.size = omega (arith, a.fit.count, a.fit.header.shards) in
    let shards : parts.shards ≡ map (shard lanes m input h.size n) (range_with_len 0 (length parts.shards)) =
    shards-are lanes h input parts.output m (div_ceil n h.size) places (λ j. shard-starts n h.size j size_some) parts.shards 0 (entry_place elf) all
    (λ some. first ∙ ap (place_at m input) (sym from)) (r.are ∙ (λ t. rows m input (sym from t) (sym none t))) a.fit.shards a.shards in
    let shard-count : length parts.shards ≡ div_ceil n h.size = omega (arith, all) in
    let shards_all : parts.shards ≡ map (shard lanes m input h.size n) (range_with_len 0 (div_ceil n h.size)) = shards ∙ ap (λ k. map (shard lanes m input h.size n) (range_with_len 0 k)) shard-count in
    record {
      has = record {
        version_within = a.fit.header.version;
        faultless = faultless;
        ends = ends;
        size_within = a.fit.header.size;
        shards_within = omega (arith, a.fit.header.shards, a.fit.header.shards_within);
        output_within = omega (arith, put, a.fit.header.length);
      };
      is = λ t. record {
        header = record {
          version = h.version;
          elf = a.elf_hash t;
          input = a.input_hash t;
          size = h.size;
          steps = n;
          shards = a.fit.header.shards t;
          end = h.end;
          consumed = sym taken t;
          length = sym put t;
        };
        output = output t;
        shards = shards_all t;
        table = (r.table ∙ ap (λ ts. table_of ts (time_of n 0)) r.hist) t;
      };
    }

-- accepted parts whose reads and writes are one multiset are those of the record
pub parts-are-record : (lanes : Lanes) (elf input : List ℕ) (parts : Parts) → first_fault elf ≡ None → AreBytes elf → AreBytes input → IsAccepted lanes elf input parts
    → Same (reads parts) (writes (image parts.header.version elf) parts) → IsRecordOf lanes elf input parts
parts-are-record lanes elf input parts faultless bytes input_bytes a same = record-of lanes elf input parts faultless a (run-facts lanes elf input parts faultless bytes input_bytes a same)
