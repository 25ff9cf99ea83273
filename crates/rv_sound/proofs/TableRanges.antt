-- The table of a run has the ranges of the grammar.
use Rattle.std.proofs.Common.{◌≡◌, ℕ, zero, suc, ◌+◌, ◌^◌, ◌<◌, ◌≤◌, Bool, true, false, cond, ◌==◌, List, [], ◌∷◌, length, map, Some, sym, subst, arith, IsTrue, nat_le, ◌&&◌, find, option_map, unwrap_or}
use Rattle.std.specs.List.{AllByRecursion}
use Rattle.std.proofs.lemmas.List.{length-map}
use Rattle.rv_base.specs.declared.record.Tuple.{Tuple}
use Rattle.rv_spec.specs.Elf.{Image}
use Rattle.rv_spec.specs.Step.{State}
use Rattle.rv_spec.specs.Run.{run, next_state}
use Rattle.rv_spec.specs.Cells.{time_of, is_cell}
use Rattle.rv_spec.specs.Visits.{Use, visit, step_uses, visits}
use Rattle.rv_spec.specs.Trace.{tuples_left, history, rising, last_use, left_at, last_entry, table_of, table}
use Rattle.rv_spec.specs.Tuples.{Event}
use Rattle.rv_rules.proofs.Lemmas.{all-of, all-in, in-map-back, in-rising, rising-rises, in-map}
use Rattle.rv_rules.specs.Membership.{In}
use Rattle.rv_order.proofs.Lemmas.{last_use-lt}
use Rattle.rv_spec.specs.Grammar.{EntryFits, IsRising}
use Rattle.rv_rules.specs.Chain.{AreOrdered}
use Rattle.rv_isa.specs.Ranges.{AreCells, StepFits}
use Rattle.rv_sound.proofs.RowRanges.{HoldsWords, left-word}
use Rattle.rv_sound.proofs.ListLemmas.{all-join, all-map, all-weaken}

abbrev TupleFits : ℕ → Tuple → Type 0
TupleFits version w = IsTrue (is_cell version w.cell) × (w.cell < 2 ^ 30 + 33) × (w.value < 2 ^ 32)

step-left : (version k : ℕ) (s t : State) (us : List Use) → HoldsWords s → HoldsWords t → AreCells version us → AllByRecursion (TupleFits version) (tuples_left k (map (visit s t) us))
step-left version k s t [] old new h = tt
step-left version k s t (u ∷ us) old new h = ((h.0.0, h.0.1, left-word (nat_le u.slot 5) s t u.cell old new), step-left version k s t us old new h.1)

history-fits : (i : Image) (input : List ℕ) → ((k : ℕ) → StepFits i input k) → (n : ℕ) → AllByRecursion (TupleFits i.version) (history i input n)
unfolding history visits run
history-fits i input fits zero = tt
history-fits i input fits (suc n) =
    let s : State = run i input n in
    all-join (TupleFits i.version) (history i input n) (tuples_left n (visits input s)) (history-fits i input fits n)
    (step-left i.version n s (next_state input s) (step_uses input s) (fits n).values (fits (suc n)).values (fits n).cells)

left-fits : (version : ℕ) (ts : List Tuple) (c t : ℕ) → AllByRecursion (TupleFits version) ts → left_at ts c t < 2 ^ 32
left-fits version [] c t h = omega arith
left-fits version (w ∷ ws) c t h = go (w.cell == c && w.time == t) (left-fits version ws c t h.1)
  where
    go : (b : Bool) → left_at ws c t < 2 ^ 32 → unwrap_or (option_map (λ w. w.value) (cond b (Some w) (find (λ w. w.cell == c && w.time == t) ws))) 0 < 2 ^ 32
    go true rest = h.0.2
    go false rest = rest

rising-count : (lo hi : ℕ) (xs : List ℕ) → lo ≤ hi → IsRising xs → AllByRecursion (λ y. lo ≤ y) xs → AllByRecursion (λ y. y < hi) xs → lo + length xs ≤ hi
rising-count lo hi [] h r low high = omega (arith, h)
rising-count lo hi (x ∷ xs) h r low high =
    omega (arith, low.0, rising-count (x + 1) hi xs (omega (arith, high.0)) r.1 (all-weaken (λ y. x < y) (λ y. x + 1 ≤ y) (λ y k. omega (arith, k)) xs r.0) high.1)

-- the entries of a run's table have the ranges of the grammar
module _ (i : Image) (input : List ℕ) (n : ℕ) (some : 0 < n) (small : n < 2 ^ 59) (fits : (k : ℕ) → StepFits i input k) (es : List Event) (o : AreOrdered es (table i input n) (time_of n 0)) where
  abbrev own : List Tuple
  own = history i input n

  used-fits : (c : ℕ) → In c (rising (map (λ w. w.cell) own)) → IsTrue (is_cell i.version c) × (c < 2 ^ 30 + 33)
  used-fits c m =
      let w = in-map-back (λ w. w.cell) c own (in-rising c (map (λ w. w.cell) own) m) in
      let f : TupleFits i.version w.0 = all-in (TupleFits i.version) own (history-fits i input fits n) w.0 w.1 in
      subst (λ x. IsTrue (is_cell i.version x) × (x < 2 ^ 30 + 33)) (sym w.2) (f.0, f.1)

  entry-fits : (c : ℕ) → In c (rising (map (λ w. w.cell) own)) → EntryFits i.version (last_entry own (time_of n 0) c)
  unfolding table table_of
  entry-fits c m = record {
    cell = (used-fits c m).0;
    value = left-fits i.version own c (last_use own c (time_of n 0)) (history-fits i input fits n);
    time = (
      all-in (λ t. 0 < t.time) (table i input n) o.after_start (last_entry own (time_of n 0) c) (in-map (last_entry own (time_of n 0)) c (rising (map (λ w. w.cell) own)) m),
      omega (arith, small, last_use-lt own c (time_of n 0) (omega (arith, some))),
    );
  }

  -- each entry has its ranges
  pub entries-fit : AllByRecursion (EntryFits i.version) (table i input n)
  unfolding table table_of
  entries-fit = all-map (EntryFits i.version) (last_entry own (time_of n 0)) (rising (map (λ w. w.cell) own)) (all-of (λ c. EntryFits i.version (last_entry own (time_of n 0) c)) (rising (map (λ w. w.cell) own)) entry-fits)

  -- and there are few enough
  pub entries-count : length (table i input n) < 2 ^ 32
  unfolding table table_of
  entries-count =
      let cs : List ℕ = rising (map (λ w. w.cell) own) in
      let size : length (map (last_entry own (time_of n 0)) cs) ≡ length cs = simp length-map in
      let most = rising-count 0 (2 ^ 30 + 33) cs (omega arith) (rising-rises (map (λ w. w.cell) own)) (all-of (λ y. 0 ≤ y) cs (λ y m. omega arith)) (all-of (λ y. y < 2 ^ 30 + 33) cs (λ y m. (used-fits y m).1)) in
      omega (arith, most, size)
