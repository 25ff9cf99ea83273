-- Rows that break no rule, whose accesses form a chain: they are the rows of the run.
use Rattle.std.proofs.Common.{◌≡◌, ◌≢◌, ℕ, suc, ◌+◌, ◌<◌, ◌≤◌, true, false, cond, ◌==◌, ◌||◌, List, [], ◌∷◌, ◌++◌, length, drop, map, Option, Some, None, is_none, is_some, refl, sym, ◌∙◌, ap, subst, inl, inr, arith, append_assoc, append-nil}
use Rattle.std.specs.List.{AllByRecursion}
use Rattle.std.proofs.lemmas.List.{map-append, length-append, drop_at}
use Rattle.std.proofs.lemmas.Bool.{eq-eqb, ne_eqb, eqb-true, cases_lt}
use Rattle.rv_base.specs.declared.record.End.{End}
use Rattle.rv_base.specs.declared.record.Header.{Header}
use Rattle.rv_base.specs.declared.record.Place.{Place}
use Rattle.rv_base.specs.declared.record.Seen.{Seen}
use Rattle.rv_base.specs.declared.record.TableEntry.{TableEntry}
use Rattle.rv_base.specs.declared.record.Tuple.{Tuple}
use Rattle.rv_spec.specs.Elf.{Image}
use Rattle.rv_spec.specs.Step.{State, Transition, Next, Ends, step}
use Rattle.rv_spec.specs.Run.{run, next_state, state_after, end_of, end_at}
use Rattle.rv_spec.specs.Cells.{initial_value, time_of}
use Rattle.rv_spec.specs.Visits.{step_uses, visits}
use Rattle.rv_spec.specs.Trace.{Row, tuples_left, history, last_use, row, rows, access}
use Rattle.rv_spec.specs.Tuples.{Event, event, events, tuple_written}
use Rattle.rv_spec.specs.Grammar.{RowFits}
use Rattle.rv_rules.specs.Chain.{AreOrdered, IsChain}
use Rattle.rv_spec.specs.Record.{place_at}
use Rattle.rv_rules.specs.Reading.{last_of}
use Rattle.rv_rules.specs.Expected.{Expected, expected}
use Rattle.rv_rules.specs.RowRules.{seen, same_end, ends_as, due, place_after}
use Rattle.rv_rules.specs.Agreement.{IsState, GoesAs, touch_of, HoldsLastUses}
use Rattle.rv_rules.proofs.Lemmas.{left-true, right-true}
use Rattle.rv_isa.specs.Follows.{SeesTouches}
use Rattle.rv_sound.specs.Accepted.{place_through, RowsHold}
use Rattle.rv_sound.proofs.RowFollows.{touch_in, RowFollows, row-follows}
use Rattle.rv_isa.specs.Shape.{AreShaped}
use Rattle.rv_isa.proofs.Lemmas.{run-version, seen-follows}
use Rattle.rv_sound.proofs.Ordered.{row-shaped, row-below, rows-late}
use Rattle.rv_sound.proofs.RowStep.{left-same, accesses-same, olds-are-held, slots-show-state, prevs-are-last-uses}
use Rattle.rv_sound.proofs.ListLemmas.{all-join, next-number, all-weaken}

-- ---- where a step goes

-- how the expected step ends, leads on, takes and puts, where it goes as the step does
pub goes-end : (e : Expected) (s : State) (turn : Transition) → GoesAs e s turn → e.end ≡ end_of turn
goes-end e s (Next t) h = h.0
goes-end e s (Ends f) h = h.0

pub goes-next : (e : Expected) (s : State) (turn : Transition) → GoesAs e s turn → e.next ≡ (state_after s turn).pc
goes-next e s (Next t) h = h.1
goes-next e s (Ends f) h = h.1

goes-took : (e : Expected) (s : State) (turn : Transition) → GoesAs e s turn → s.position + e.took ≡ (state_after s turn).position
goes-took e s (Next t) h = h.2
goes-took e s (Ends f) h = omega (arith, h.2)

pub goes-put : (e : Expected) (s : State) (turn : Transition) → GoesAs e s turn → s.output ++ e.put ≡ (state_after s turn).output
goes-put e s (Next t) h = h.3
goes-put e s (Ends f) h = ap (λ (l : List ℕ). s.output ++ l) h.3 ∙ append-nil s.output

same-ends : (e : End) (o : Option End) → same_end e o ≡ true → o ≡ Some e
same-ends e None h = absurd cc
same-ends e (Some f) h =
    let kind : e.kind ≡ f.kind = eqb-true e.kind f.kind (left-true (e.kind == f.kind) (e.code == f.code) h) in
    let code : e.code ≡ f.code = eqb-true e.code f.code (right-true (e.kind == f.kind) (e.code == f.code) h) in
    λ i. Some (record { kind = sym kind i; code = sym code i })

none-ends : (o : Option End) → (is_none o || false) ≡ true → o ≡ None
none-ends None h = refl
none-ends (Some e) h = absurd cc

-- the place after the row of a step is that after the step
pub place-next : (version : ℕ) (i : Image) (input : List ℕ) (k : ℕ) (r : Row) → GoesAs (due version r (place_at i input k) input) (run i input k) (step input (run i input k))
    → place_after version r (place_at i input k) input ≡ place_at i input (k + 1)
unfolding run place_after
place-next version i input k r goes =
    let s : State = run i input k in
    let e : Expected = due version r (place_at i input k) input in
    let put : length s.output + length e.put ≡ length (next_state input s).output = sym (length-append s.output e.put) ∙ ap length (goes-put e s (step input s) goes) in
    let made : place_after version r (place_at i input k) input ≡ place_at i input (suc k) =
    λ j. record { pc = goes-next e s (step input s) goes j; input = goes-took e s (step input s) goes j; output = put j } in
    made ∙ ap (place_at i input) (next-number k)

at-or-after : (k j : ℕ) (P : ℕ → Type 0) → k ≤ j → P k → (k + 1 ≤ j → P j) → P j
at-or-after k j P lo first rest = elim (cases_lt k j) [
  | inl above ↦ rest (omega (arith, above))
  | inr same ↦ subst P (omega (arith, lo, same)) first
]

-- ---- rows

module _ (h : Header) (i : Image) (input output : List ℕ) (version : i.version ≡ h.version) (states : (n : ℕ) → IsState (run i input n)) (lasts : (n : ℕ) → HoldsLastUses i input n)
    (es : List Event) (table : List TableEntry) (bound : ℕ) (o : AreOrdered es table bound) (c : IsChain (initial_value i) es table bound) where
  -- the row of step number k, and what follows
  record IsStepRow (k : ℕ) (r : Row) : Type 0 where
    pub is : r ≡ row i input k
    pub left : map tuple_written (map (event k) r.accesses) ≡ tuples_left k (visits input (run i input k))
    pub goes : GoesAs (due h.version r (place_at i input k) input) (run i input k) (step input (run i input k))

  row-is-step : (k : ℕ) (r : Row) (before later : List Event) → es ≡ before ++ (map (event k) r.accesses ++ later) → map tuple_written before ≡ history i input k
      → AllByRecursion (λ e. e.time < time_of k 0) before → AllByRecursion (λ e. time_of (k + 1) 0 ≤ e.time) later
      → RowFits r → RowFollows h.version r k (place_at i input k) (last_of h k) input output → IsStepRow k r
  unfolding visits history
  row-is-step k r before later split hist early late fits f =
      let s : State = run i input k in
      let v : Seen = seen r.accesses in
      let shaped : AreShaped v 1 9 (map touch_in r.accesses) = row-shaped h.version r k (place_at i input k) (last_of h k) input output fits f in
      let same : due h.version r (place_at i input k) input ≡ expected s.version s.pc v input s.position = λ j. expected ((sym version ∙ sym (run-version i input k)) j) (f.pc j) v input s.position in
      let shown = slots-show-state i input es table bound o c lasts k r.accesses before later split hist early late shaped in
      let follows = seen-follows input s v (states k) (subst (SeesTouches v s) (f.touches ∙ ap (λ (e : Expected). e.touches) same) shown) in
      let made : map touch_in r.accesses ≡ map touch_of (visits input s) = f.touches ∙ ap (λ (e : Expected). e.touches) same ∙ follows.0 in
      let left : map tuple_written (map (event k) r.accesses) ≡ tuples_left k (visits input s) = left-same k r.accesses (visits input s) made in
      let goes : GoesAs (due h.version r (place_at i input k) input) s (step input s) = subst (λ (e : Expected). GoesAs e s (step input s)) (sym same) follows.1 in
      let all : map tuple_written (before ++ map (event k) r.accesses) ≡ history i input (suc k) = map-append tuple_written before (map (event k) r.accesses) ∙ (λ j. hist j ++ left j) in
      let accesses : r.accesses ≡ map (access (history i input (suc k)) k) (visits input s) =
      accesses-same (history i input (suc k)) k s (next_state input s) (step_uses input s) r.accesses made
      (olds-are-held i input es table bound o c lasts k r.accesses before later split hist early late shaped)
      (subst (λ (ts : List Tuple). AllByRecursion (λ a. a.prev ≡ last_use ts a.cell (time_of k a.slot)) r.accesses) all (prevs-are-last-uses i input es table bound o c lasts k r.accesses before later split hist early late shaped)) in
      record {
        is = λ j. record { pc = f.pc j; next = (f.next ∙ goes-next (due h.version r (place_at i input k) input) s (step input s) goes) j; accesses = accesses j };
        left = left;
        goes = goes;
      }

  longer-history : (k : ℕ) (before here : List Event) → map tuple_written before ≡ history i input k → map tuple_written here ≡ tuples_left k (visits input (run i input k)) → map tuple_written (before ++ here) ≡ history i input (k + 1)
  unfolding history
  longer-history k before here p q = map-append tuple_written before here ∙ (λ j. p j ++ q j) ∙ ap (history i input) (next-number k)

  -- rows from step number k on, after which the run's history is that of the whole file
  pub record AreStepRows (k : ℕ) (rs : List Row) : Type 0 where
    pub are : rs ≡ rows i input k (length rs)
    pub places : (xs ys : List Row) → rs ≡ xs ++ ys → place_through h.version input (place_at i input k) xs ≡ place_at i input (k + length xs)
    pub hist : map tuple_written es ≡ history i input (k + length rs)
    pub put : (rest : List ℕ) × (output ≡ (run i input (k + length rs)).output ++ rest)
    pub goes_on : (j : ℕ) → k ≤ j → j < k + length rs → j + 1 ≢ h.steps → end_at i input j ≡ None
    pub last : (j : ℕ) → k ≤ j → j < k + length rs → j + 1 ≡ h.steps → end_at i input j ≡ Some h.end

  -- the bytes that the row puts follow those that were put before
  output-next : (k : ℕ) (r : Row) (rest : List ℕ) → output ≡ (run i input k).output ++ rest → GoesAs (due h.version r (place_at i input k) input) (run i input k) (step input (run i input k))
      → RowFollows h.version r k (place_at i input k) (last_of h k) input output → (more : List ℕ) × (output ≡ (run i input (k + 1)).output ++ more)
  unfolding run
  output-next k r rest is goes f =
      let s : State = run i input k in
      let e : Expected = due h.version r (place_at i input k) input in
      let left : rest ≡ e.put ++ f.put.0 = sym (ap (drop (length s.output)) is ∙ drop_at s.output rest (length s.output) refl) ∙ f.put.1 in
      let all : output ≡ (next_state input s).output ++ f.put.0 =
      is ∙ ap (λ (l : List ℕ). s.output ++ l) left ∙ sym (append_assoc s.output e.put f.put.0) ∙ ap (λ (l : List ℕ). l ++ f.put.0) (goes-put e s (step input s) goes) in
      (f.put.0, all ∙ ap (λ n. (run i input n).output ++ f.put.0) (next-number k))

  -- how the row's step ends
  ends-here : (k : ℕ) (r : Row) → GoesAs (due h.version r (place_at i input k) input) (run i input k) (step input (run i input k)) → RowFollows h.version r k (place_at i input k) (last_of h k) input output
      → (k + 1 ≢ h.steps → end_at i input k ≡ None) × (k + 1 ≡ h.steps → end_at i input k ≡ Some h.end)
  ends-here k r goes f =
      let e : Expected = due h.version r (place_at i input k) input in
      let is : e.end ≡ end_at i input k = goes-end e (run i input k) (step input (run i input k)) goes in (
        λ no. sym is ∙ none-ends e.end (ap (λ b. is_none e.end || is_some (cond b (Some h.end) None)) (sym (ne_eqb (k + 1) h.steps no)) ∙ f.goes_on),
        λ yes. sym is ∙ same-ends h.end e.end (ap (λ b. ends_as (cond b (Some h.end) None) e.end) (sym (eq-eqb (k + 1) h.steps yes)) ∙ f.ends),
      )

  no-places : (k : ℕ) (xs ys : List Row) → [] ≡ xs ++ ys → place_through h.version input (place_at i input k) xs ≡ place_at i input (k + length xs)
  no-places k [] ys e = let zero_more : k ≡ k + 0 = omega arith in ap (place_at i input) zero_more
  no-places k (x ∷ xs) ys e = absurd cc

  row-places : (k : ℕ) (r : Row) (rs : List Row) → place_after h.version r (place_at i input k) input ≡ place_at i input (k + 1)
      → ((xs ys : List Row) → rs ≡ xs ++ ys → place_through h.version input (place_at i input (k + 1)) xs ≡ place_at i input (k + 1 + length xs))
      → (xs ys : List Row) → r ∷ rs ≡ xs ++ ys → place_through h.version input (place_at i input k) xs ≡ place_at i input (k + length xs)
  row-places k r rs place more [] ys e = let zero_more : k ≡ k + 0 = omega arith in ap (place_at i input) zero_more
  row-places k r rs place more (x ∷ xs) ys e =
      let same : x ≡ r = cc in
      let rest : rs ≡ xs ++ ys = cc in
      let count : k + 1 + length xs ≡ k + suc (length xs) = omega arith in
      ap (λ (x : Row). place_through h.version input (place_after h.version x (place_at i input k) input) xs) same
      ∙ ap (λ (p : Place). place_through h.version input p xs) place ∙ more xs ys rest ∙ ap (place_at i input) count

  -- rows that break no rule, from step k on, where the rows before it are the run's: row by row, each is the row of the run's step
  pub rows-are-steps : (rs : List Row) (k : ℕ) (before : List Event) → es ≡ before ++ events k rs → map tuple_written before ≡ history i input k → AllByRecursion (λ e. e.time < time_of k 0) before
      → RowsHold h input output k (place_at i input k) rs → AllByRecursion RowFits rs → (rest : List ℕ) × (output ≡ (run i input k).output ++ rest) → AreStepRows k rs
  rows-are-steps [] k before split hist early holds fits out =
      let zero_more : k ≡ k + 0 = omega arith in
      record {
        are = refl;
        places = λ xs ys e. no-places k xs ys e;
        hist = ap (map tuple_written) (split ∙ append-nil before) ∙ hist ∙ ap (history i input) zero_more;
        put = (out.0, out.1 ∙ ap (λ n. (run i input n).output ++ out.0) zero_more);
        goes_on = λ j lo hi. absurd (omega (arith, lo, hi));
        last = λ j lo hi. absurd (omega (arith, lo, hi));
      }
  rows-are-steps (r ∷ rs) k before split hist early holds fits out =
      let f : RowFollows h.version r k (place_at i input k) (last_of h k) input output = row-follows h.version r k (place_at i input k) (last_of h k) input output holds.0 in
      let later : List Event = events (k + 1) rs in
      let here : List Event = map (event k) r.accesses in
      let late : AllByRecursion (λ e. time_of (k + 1) 0 ≤ e.time) later = rows-late h input output rs (k + 1) (place_after h.version r (place_at i input k) input) holds.1 fits.1 in
      let one : IsStepRow k r = row-is-step k r before later split hist early late fits.0 f in
      let place : place_after h.version r (place_at i input k) input ≡ place_at i input (k + 1) = place-next h.version i input k r one.goes in
      let longer : map tuple_written (before ++ here) ≡ history i input (k + 1) = longer-history k before here hist one.left in
      let soon : AllByRecursion (λ e. e.time < time_of (k + 1) 0) (before ++ here) =
      all-join (λ e. e.time < time_of (k + 1) 0) before here (all-weaken (λ e. e.time < time_of k 0) (λ e. e.time < time_of (k + 1) 0) (λ e h. omega (arith, h)) before early)
      (row-below (seen r.accesses) k r.accesses (row-shaped h.version r k (place_at i input k) (last_of h k) input output fits.0 f)) in
      let more : AreStepRows (k + 1) rs =
      rows-are-steps rs (k + 1) (before ++ here) (split ∙ sym (append_assoc before here later)) longer soon
      (subst (λ (p : Place). RowsHold h input output (k + 1) p rs) place holds.1) fits.1 (output-next k r out.0 out.1 one.goes f) in
      let ends = ends-here k r one.goes f in
      let count : k + 1 + length rs ≡ k + suc (length rs) = omega arith in
      record {
        are = λ j. one.is j ∷ more.are j;
        places = λ xs ys e. row-places k r rs place more.places xs ys e;
        hist = more.hist ∙ ap (history i input) count;
        put = (more.put.0, more.put.1 ∙ ap (λ n. (run i input n).output ++ more.put.0) count);
        goes_on = λ j lo hi no. at-or-after k j (λ n. n + 1 ≢ h.steps → end_at i input n ≡ None) lo ends.0 (λ above. more.goes_on j above (omega (arith, hi, count))) no;
        last = λ j lo hi yes. at-or-after k j (λ n. n + 1 ≡ h.steps → end_at i input n ≡ Some h.end) lo ends.1 (λ above. more.last j above (omega (arith, hi, count))) yes;
      }
