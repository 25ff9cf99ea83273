-- The accesses of a run form a chain, and so its reads and writes are one multiset.
use Rattle.std.proofs.Common.{◌≡◌, ℕ, zero, suc, ◌+◌, ◌-◌, ◌<◌, ◌≤◌, List, [], ◌∷◌, ◌++◌, length, map, refl, sym, ◌∙◌, ap, subst, inl, inr, arith, append_assoc, append-nil}
use Rattle.std.specs.List.{AllByRecursion}
use Rattle.std.proofs.lemmas.List.{map-append}
use Rattle.std.proofs.lemmas.List.FromFn.{length-map-range_with_len}
use Rattle.rv_base.specs.declared.record.Access.{Access}
use Rattle.rv_base.specs.declared.record.Header.{Header}
use Rattle.rv_base.specs.declared.record.Tuple.{Tuple}
use Rattle.rv_spec.specs.Elf.{Image}
use Rattle.rv_spec.specs.Step.{State}
use Rattle.rv_spec.specs.Run.{run, next_state, EndsIn}
use Rattle.rv_spec.specs.Cells.{value, initial_value, time_of}
use Rattle.rv_spec.specs.Visits.{Use, Visit, visit, step_uses, visits}
use Rattle.rv_spec.specs.Trace.{Row, tuples_left, history, row, rows, access, last_use, table, table_of}
use Rattle.rv_spec.specs.Tuples.{Event, event, events, tuple_written, all_read, all_written}
use Rattle.rv_spec.specs.Grammar.{RowFits}
use Rattle.rv_spec.specs.Multiset.{Same}
use Rattle.rv_rules.specs.Chain.{AllDiffer, AreOrdered, IsChain, value_before}
use Rattle.rv_spec.specs.Record.{place_at}
use Rattle.rv_rules.specs.Reading.{last_of}
use Rattle.rv_rules.specs.RowRules.{seen}
use Rattle.rv_rules.specs.Agreement.{IsState, touch_of}
use Rattle.rv_rules.specs.Membership.{In}
use Rattle.rv_rules.proofs.Lemmas.{all-of}
use Rattle.rv_order.specs.OwnTimes.{HaveOwnTimes}
use Rattle.rv_order.proofs.Lemmas.{chain-ordered, chain-same}
use Rattle.rv_isa.proofs.Lemmas.{holds-last-uses}
use Rattle.rv_sound.specs.Accepted.{RowsHold}
use Rattle.rv_sound.proofs.RowFollows.{touch_in, row-follows}
use Rattle.rv_isa.specs.Shape.{AreShaped}
use Rattle.rv_sound.proofs.Ordered.{row-shaped, rows-late, rows-soon, rows-differ}
use Rattle.rv_sound.proofs.RowShape.{InShape, shaped-in, left-as-found}
use Rattle.rv_sound.proofs.AtRow.{last-up-to-row, held-before-or-left-here}
use Rattle.rv_sound.proofs.RowStep.{left-same}
use Rattle.rv_sound.proofs.RowsOfRun.{rows-hold}
use Rattle.rv_sound.proofs.ListLemmas.{all-join, all-map, rows-split}

events-append : (xs ys : List Row) (k : ℕ) → events k (xs ++ ys) ≡ events k xs ++ events (k + length xs) ys
events-append [] ys k = let none : k ≡ k + 0 = omega arith in ap (λ n. events n ys) none
events-append (x ∷ xs) ys k =
    let count : k + 1 + length xs ≡ k + suc (length xs) = omega arith in
    ap (λ (l : List Event). map (event k) x.accesses ++ l) (events-append xs ys (k + 1) ∙ ap (λ n. events (k + 1) xs ++ events n ys) count)
    ∙ sym (append_assoc (map (event k) x.accesses) (events (k + 1) xs) (events (k + suc (length xs)) ys))

touches-in : (h : List Tuple) (k : ℕ) (vs : List Visit) → map touch_in (map (access h k) vs) ≡ map touch_of vs
touches-in h k [] = refl
touches-in h k (v ∷ vs) = λ i. touch_of v ∷ touches-in h k vs i

visit-old : (h : List Tuple) (k : ℕ) (s t : State) (us : List Use) (a : Access) → In a (map (access h k) (map (visit s t) us)) → (a.old ≡ value s a.cell) × (a.prev ≡ last_use h a.cell (time_of k a.slot))
visit-old h k s t [] a m = absurd m
visit-old h k s t (u ∷ us) a (inl e) = subst (λ (z : Access). (z.old ≡ value s z.cell) × (z.prev ≡ last_use h z.cell (time_of k z.slot))) (sym e) (refl, refl)
visit-old h k s t (u ∷ us) a (inr m) = visit-old h k s t us a m

module _ (h : Header) (i : Image) (input : List ℕ) (version : i.version ≡ h.version) (states : (n : ℕ) → IsState (run i input n) × ((run i input n).position ≤ length input))
    (ends : EndsIn i input h.steps h.end) (fits : (k c : ℕ) → k + c ≤ h.steps → AllByRecursion RowFits (rows i input k c)) where
  abbrev n : ℕ
  n = h.steps

  abbrev out : List ℕ
  out = (run i input h.steps).output

  abbrev es : List Event
  es = events 0 (rows i input 0 h.steps)

  abbrev own : List Tuple
  own = map tuple_written es

  hold : (k c : ℕ) → k + c ≤ h.steps → RowsHold h input out k (place_at i input k) (rows i input k c)
  hold k c within = rows-hold h i input version states ends c k within

  -- what rows write is what the run leaves
  all-written : (c k : ℕ) → history i input k ++ map tuple_written (events k (rows i input k c)) ≡ history i input (k + c)
  unfolding history
  all-written zero k = let none : k ≡ k + 0 = omega arith in append-nil (history i input k) ∙ ap (history i input) none
  all-written (suc c) k =
      let here : List Event = map (event k) (row i input k).accesses in
      let later : List Event = events (k + 1) (rows i input (k + 1) c) in
      let left : map tuple_written here ≡ tuples_left k (visits input (run i input k)) = left-same k (row i input k).accesses (visits input (run i input k)) (touches-in (history i input (suc k)) k (visits input (run i input k))) in
      let next : suc k ≡ k + 1 = omega arith in
      let count : k + 1 + c ≡ k + suc c = omega arith in
      ap (λ (l : List Tuple). history i input k ++ l) (map-append tuple_written here later)
      ∙ sym (append_assoc (history i input k) (map tuple_written here) (map tuple_written later))
      ∙ ap (λ (l : List Tuple). history i input k ++ l ++ map tuple_written later) left
      ∙ ap (λ m. history i input m ++ map tuple_written later) next
      ∙ all-written c (k + 1) ∙ ap (history i input) count

  -- what the rows of a run write is what the run leaves
  pub written-is-history : own ≡ history i input h.steps
  unfolding history
  written-is-history = all-written h.steps 0 ∙ (let none : 0 + h.steps ≡ h.steps = omega arith in ap (history i input) none)

  -- ---- one row

  module _ (k : ℕ) (less : k < h.steps) where
    abbrev s : State
    s = run i input k

    abbrev accs : List Access
    accs = (row i input k).accesses

    abbrev before : List Event
    before = events 0 (rows i input 0 k)

    abbrev here : List Event
    here = map (event k) accs

    abbrev later : List Event
    later = events (k + 1) (rows i input (k + 1) (h.steps - (k + 1)))

    split : es ≡ before ++ (here ++ later)
    split =
        let whole : h.steps ≡ k + suc (h.steps - (k + 1)) = omega (arith, less) in
        let from : 0 + k ≡ k = omega arith in
        let size : 0 + length (rows i input 0 k) ≡ k = omega (arith, length-map-range_with_len (row i input) 0 k) in
        ap (λ m. events 0 (rows i input 0 m)) whole ∙ ap (events 0) (rows-split i input 0 k (suc (h.steps - (k + 1))))
        ∙ events-append (rows i input 0 k) (rows i input (0 + k) (suc (h.steps - (k + 1)))) 0
        ∙ (λ j. before ++ events (size j) (rows i input (from j) (suc (h.steps - (k + 1)))))

    hist : map tuple_written before ≡ history i input k
    unfolding history
    hist = all-written k 0 ∙ (let none : 0 + k ≡ k = omega arith in ap (history i input) none)

    early : AllByRecursion (λ e. e.time < time_of k 0) before
    early =
        let size : 0 + length (rows i input 0 k) ≡ k = omega (arith, length-map-range_with_len (row i input) 0 k) in
        let within : 0 + k ≤ h.steps = omega (arith, less) in
        subst (λ m. AllByRecursion (λ e. e.time < time_of m 0) before) size (rows-soon h input out (rows i input 0 k) 0 (place_at i input 0) (hold 0 k within) (fits 0 k within))

    late : AllByRecursion (λ e. time_of (k + 1) 0 ≤ e.time) later
    late =
        let within : k + 1 + (h.steps - (k + 1)) ≤ h.steps = omega (arith, less) in
        rows-late h input out (rows i input (k + 1) (h.steps - (k + 1))) (k + 1) (place_at i input (k + 1)) (hold (k + 1) (h.steps - (k + 1)) within) (fits (k + 1) (h.steps - (k + 1)) within)

    shaped : AreShaped (seen accs) 1 9 (map touch_in accs)
    shaped =
        let within : k + 1 ≤ h.steps = omega (arith, less) in
        row-shaped h.version (row i input k) k (place_at i input k) (last_of h k) input out (fits k 1 within).0
        (row-follows h.version (row i input k) k (place_at i input k) (last_of h k) input out (hold k 1 within).0)

    within-row : (a : Access) → In a accs → InShape (seen accs) 1 9 (touch_in a)
    within-row a m = shaped-in (seen accs) 1 9 accs shaped a m

    all-differ : AllDiffer (map (λ e. e.time) es)
    all-differ = let within : 0 + h.steps ≤ h.steps = omega arith in rows-differ h input out (rows i input 0 h.steps) 0 (place_at i input 0) (hold 0 h.steps within) (fits 0 h.steps within)

    visited : (a : Access) → In a accs → (a.old ≡ value s a.cell) × (a.prev ≡ last_use (history i input (suc k)) a.cell (time_of k a.slot))
    unfolding visits
    visited a m = visit-old (history i input (suc k)) k s (next_state input s) (step_uses input s) a m

    value-is : (a : Access) → In a accs → a.old ≡ value_before (initial_value i) own a.cell (time_of k a.slot)
    value-is a m = elim (held-before-or-left-here es before later k accs split all-differ early late shaped (initial_value i) a m) [
      | inl same ↦ (visited a m).0 ∙ holds-last-uses i input k a.cell ∙ ap (λ ts. value_before (initial_value i) ts a.cell (time_of k 0)) (sym hist) ∙ sym same
      | inr b ↦ (visited a m).0 ∙ ap (value s) (sym b.2) ∙ sym (visited b.0 b.1).0 ∙ sym (left-as-found accs shaped b.0 a b.1 m b.2 b.3) ∙ sym b.4
    ]

    up-to-row : map tuple_written (before ++ here) ≡ history i input (suc k)
    unfolding history
    up-to-row =
        let left : map tuple_written here ≡ tuples_left k (visits input s) = left-same k accs (visits input s) (touches-in (history i input (suc k)) k (visits input s)) in
        map-append tuple_written before here ∙ (λ j. hist j ++ left j)

    time-is : (a : Access) → In a accs → a.prev ≡ last_use own a.cell (time_of k a.slot)
    time-is a m = (visited a m).1 ∙ ap (λ ts. last_use ts a.cell (time_of k a.slot)) (sym up-to-row) ∙ sym (last-up-to-row es before later k accs split all-differ early late shaped a m)

  -- ---- all rows

  all-rows : (P : Event → Type 0) → ((k : ℕ) → k < h.steps → (a : Access) → In a (row i input k).accesses → P (event k a)) → (c k : ℕ) → k + c ≤ h.steps → AllByRecursion P (events k (rows i input k c))
  all-rows P each zero k within = tt
  all-rows P each (suc c) k within =
      all-join P (map (event k) (row i input k).accesses) (events (k + 1) (rows i input (k + 1) c))
      (all-map P (event k) (row i input k).accesses (all-of (λ a. P (event k a)) (row i input k).accesses (each k (omega (arith, within)))))
      (all-rows P each c (k + 1) (omega (arith, within)))

  -- the accesses of a run and its table are a chain
  pub run-chain : IsChain (initial_value i) es (table i input h.steps) (time_of h.steps 0)
  unfolding table
  run-chain = record {
    times = all-rows (λ e. e.prev ≡ last_use own e.cell e.time) time-is h.steps 0 (omega arith);
    values = all-rows (λ e. e.old ≡ value_before (initial_value i) own e.cell e.time) value-is h.steps 0 (omega arith);
    last = ap (λ ts. table_of ts (time_of h.steps 0)) (sym written-is-history);
  }

  -- each has a time of its own
  pub own-times : HaveOwnTimes es (time_of h.steps 0)
  own-times =
      let within : 0 + h.steps ≤ h.steps = omega arith in
      let size : 0 + length (rows i input 0 h.steps) ≡ h.steps = omega (arith, length-map-range_with_len (row i input) 0 h.steps) in
      record {
        differ = rows-differ h input out (rows i input 0 h.steps) 0 (place_at i input 0) (hold 0 h.steps within) (fits 0 h.steps within);
        positive = all-rows (λ e. 0 < e.time) (λ k less a m. let low = (within-row k less a m).above in omega (arith, low)) h.steps 0 within;
        below = subst (λ m. AllByRecursion (λ e. e.time < time_of m 0) es) size (rows-soon h input out (rows i input 0 h.steps) 0 (place_at i input 0) (hold 0 h.steps within) (fits 0 h.steps within));
      }

  -- so they are ordered
  pub run-ordered : AreOrdered es (table i input h.steps) (time_of h.steps 0)
  run-ordered = chain-ordered (initial_value i) es (table i input h.steps) (time_of h.steps 0) own-times run-chain

  -- and all that is read and all that is written are one multiset
  pub run-same : Same (all_read es (table i input h.steps)) (all_written (initial_value i) es (table i input h.steps))
  run-same = chain-same (initial_value i) es (table i input h.steps) (time_of h.steps 0) own-times run-chain
