-- The rows of a run break no rule, at the places of the run.
use Rattle.std.proofs.Common.{◌≡◌, ◌≢◌, ℕ, zero, suc, ◌+◌, ◌-◌, ◌<◌, ◌≤◌, Bool, true, false, cond, ◌==◌, ◌&&◌, ◌||◌, List, [], ◌∷◌, ◌++◌, length, drop, map, Option, Some, None, is_none, is_some, refl, sym, ◌∙◌, ap, subst, arith, append_assoc, append-nil, nat_lt, nat_eq, bytes_eq}
use Rattle.std.specs.List.{AllByRecursion, list_all, starts_with}
use Rattle.std.proofs.lemmas.List.{drop_at}
use Rattle.std.proofs.lemmas.Bool.{eq-eqb, eqb-true, eqb-false, lt-ltb}
use Rattle.std.proofs.lemmas.Bool.Decides.{Decides-eqb}
use Rattle.std.proofs.lemmas.Slice.Eq.{bytes_eq-Decides, starts_is}
use Rattle.rv_base.specs.declared.record.End.{End}
use Rattle.rv_base.specs.declared.record.Header.{Header}
use Rattle.rv_base.specs.declared.record.Place.{Place}
use Rattle.rv_base.specs.declared.record.Seen.{Seen}
use Rattle.rv_base.specs.declared.record.Tuple.{Tuple}
use Rattle.rv_spec.specs.Elf.{Image}
use Rattle.rv_spec.specs.Step.{State, step}
use Rattle.rv_spec.specs.Run.{run, next_state, end_at, EndsIn}
use Rattle.rv_spec.specs.Cells.{time_of}
use Rattle.rv_spec.specs.Visits.{Use, Visit, visit, step_uses, visits}
use Rattle.rv_spec.specs.Trace.{history, row, rows, access, last_use}
use Rattle.rv_spec.specs.Record.{place_at}
use Rattle.rv_rules.specs.Reading.{last_of}
use Rattle.rv_rules.specs.Expected.{Expected, expected}
use Rattle.rv_rules.specs.RowRules.{seen, same_end, ends_as, due, row_rule, row_checks, place_after}
use Rattle.rv_rules.specs.Agreement.{IsState, GoesAs, Agrees, touch_of}
use Rattle.rv_order.proofs.Lemmas.{last_use-lt}
use Rattle.rv_isa.proofs.Lemmas.{steps-agree, run-version, step-slots-rise, all-within}
use Rattle.rv_sound.specs.Accepted.{place_through, RowsHold}
use Rattle.rv_sound.proofs.RowFollows.{none-broken}
use Rattle.rv_sound.proofs.Runs.{goes-end, goes-next, goes-put, place-next}

-- ---- accesses of visits

slots-same : (h : List Tuple) (k : ℕ) (vs : List Visit) → map (λ a. a.slot) (map (access h k) vs) ≡ map (λ t. t.slot) (map touch_of vs)
slots-same h k [] = refl
slots-same h k (v ∷ vs) = λ i. v.slot ∷ slots-same h k vs i

cells-same : (h : List Tuple) (k : ℕ) (vs : List Visit) → map (λ a. a.cell) (map (access h k) vs) ≡ map (λ t. t.cell) (map touch_of vs)
cells-same h k [] = refl
cells-same h k (v ∷ vs) = λ i. v.cell ∷ cells-same h k vs i

news-same : (h : List Tuple) (k : ℕ) (vs : List Visit) → map (λ a. a.new) (map (access h k) vs) ≡ map (λ t. t.new) (map touch_of vs)
news-same h k [] = refl
news-same h k (v ∷ vs) = λ i. v.new ∷ news-same h k vs i

times-hold : (h : List Tuple) (k : ℕ) (s t : State) (us : List Use) → AllByRecursion (λ u. (1 ≤ u.slot) × (u.slot < 9)) us
    → list_all (λ a. nat_lt a.prev (time_of k a.slot)) (map (access h k) (map (visit s t) us)) ≡ true
times-hold h k s t [] w = refl
times-hold h k s t (u ∷ us) w =
    let early : nat_lt (last_use h u.cell (time_of k u.slot)) (time_of k u.slot) ≡ true = lt-ltb (last_use h u.cell (time_of k u.slot)) (time_of k u.slot) (last_use-lt h u.cell (time_of k u.slot) (omega (arith, w.0.0))) in
    ap (λ b. b && list_all (λ a. nat_lt a.prev (time_of k a.slot)) (map (access h k) (map (visit s t) us))) early ∙ times-hold h k s t us w.1

same-slots : (xs ys : List ℕ) → xs ≡ ys → bytes_eq xs ys ≡ true
same-slots xs ys e = (bytes_eq-Decides xs ys).1 e

or-true : (b : Bool) → (b || true) ≡ true
or-true true = refl
or-true false = refl

same-end-is : (e : End) → same_end e (Some e) ≡ true
same-end-is e = ap (λ b. b && (e.code == e.code)) (eq-eqb e.kind e.kind refl) ∙ eq-eqb e.code e.code refl

module _ (h : Header) (i : Image) (input : List ℕ) (version : i.version ≡ h.version) (states : (n : ℕ) → IsState (run i input n) × ((run i input n).position ≤ length input))
    (ends : EndsIn i input h.steps h.end) where
  abbrev output : List ℕ
  output = (run i input h.steps).output

  agreed : (k : ℕ) → ((due h.version (row i input k) (place_at i input k) input).touches ≡ map touch_of (visits input (run i input k)))
      × GoesAs (due h.version (row i input k) (place_at i input k) input) (run i input k) (step input (run i input k))
  agreed k =
      let s : State = run i input k in
      let v : Seen = seen (row i input k).accesses in
      let a : Agrees input s (history i input (suc k)) k = steps-agree input s (history i input (suc k)) k (states k).0 (states k).1 in
      let same : expected s.version s.pc v input s.position ≡ due h.version (row i input k) (place_at i input k) input = λ j. expected ((run-version i input k ∙ version) j) s.pc v input s.position in
      (ap (λ (e : Expected). e.touches) (sym same) ∙ a.accesses, subst (λ (e : Expected). GoesAs e s (step input s)) same a.goes)

  -- the output only grows
  pub output-grows : (k m : ℕ) → (rest : List ℕ) × ((run i input (k + m)).output ≡ (run i input k).output ++ rest)
  unfolding run
  output-grows k zero = let none : k + 0 ≡ k = omega arith in ([], ap (λ n. (run i input n).output) none ∙ sym (append-nil (run i input k).output))
  output-grows k (suc m) =
      let before = output-grows k m in
      let s : State = run i input (k + m) in
      let more : k + suc m ≡ suc (k + m) = omega arith in
      let e : Expected = due h.version (row i input (k + m)) (place_at i input (k + m)) input in (
        before.0 ++ e.put,
        ap (λ n. (run i input n).output) more ∙ sym (goes-put e s (step input s) (agreed (k + m)).1) ∙ ap (λ (l : List ℕ). l ++ e.put) before.1 ∙ append_assoc (run i input k).output before.0 e.put,
      )

  put-holds : (k : ℕ) → k < h.steps → starts_with nat_eq (drop (length (run i input k).output) output) (due h.version (row i input k) (place_at i input k) input).put ≡ true
  unfolding run
  put-holds k less =
      let s : State = run i input k in
      let e : Expected = due h.version (row i input k) (place_at i input k) input in
      let later = output-grows (suc k) (h.steps - suc k) in
      let whole : suc k + (h.steps - suc k) ≡ h.steps = omega (arith, less) in
      let is : output ≡ s.output ++ (e.put ++ later.0) =
      ap (λ n. (run i input n).output) (sym whole) ∙ later.1 ∙ ap (λ (l : List ℕ). l ++ later.0) (sym (goes-put e s (step input s) (agreed k).1)) ∙ append_assoc s.output e.put later.0 in
      let left : drop (length s.output) output ≡ e.put ++ later.0 = ap (drop (length s.output)) is ∙ drop_at s.output (e.put ++ later.0) (length s.output) refl in
      (starts_is Decides-eqb (drop (length s.output) output) e.put (starts_with nat_eq (drop (length s.output) output) e.put) refl).1 later.0 left

  end-holds : (k : ℕ) → k < h.steps → (o : Option End) → o ≡ end_at i input k → ((is_none o || is_some (last_of h k)) ≡ true) × (ends_as (last_of h k) o ≡ true)
  end-holds k less o is = go (k + 1 == h.steps) refl
    where
      go : (b : Bool) → (k + 1 == h.steps) ≡ b → ((is_none o || is_some (cond b (Some h.end) None)) ≡ true) × (ends_as (cond b (Some h.end) None) o ≡ true)
      go true e =
          let last : o ≡ Some h.end = is ∙ ap (end_at i input) (let same : k ≡ h.steps - 1 = omega (arith, eqb-true (k + 1) h.steps e) in same) ∙ ends.last in
          (or-true (is_none o), ap (same_end h.end) last ∙ same-end-is h.end)
      go false e =
          let none : o ≡ None = is ∙ ends.before k (let other : k + 1 ≢ h.steps = eqb-false (k + 1) h.steps e in omega (arith, less, other)) in
          (ap (λ (p : Option End). is_none p || false) none, refl)

  row-holds : (k : ℕ) → k < h.steps → row_rule h.version (row i input k) k (place_at i input k) (last_of h k) input output ≡ None
  unfolding row_checks visits step_uses
  row-holds k less =
      let s : State = run i input k in
      let e : Expected = due h.version (row i input k) (place_at i input k) input in
      let a = agreed k in
      let vs : List Visit = visits input s in
      let end = end-holds k less e.end (goes-end e s (step input s) a.1) in
      none-broken (row_checks h.version (row i input k) k (place_at i input k) (last_of h k) input output) (
        eq-eqb s.pc s.pc refl,
        (
          same-slots _ _ (slots-same (history i input (suc k)) k vs ∙ ap (map (λ t. t.slot)) (sym a.0)),
          (
            same-slots _ _ (cells-same (history i input (suc k)) k vs ∙ ap (map (λ t. t.cell)) (sym a.0)),
            (
              same-slots _ _ (news-same (history i input (suc k)) k vs ∙ ap (map (λ t. t.new)) (sym a.0)),
              (
                times-hold (history i input (suc k)) k s (next_state input s) (step_uses input s) (all-within 1 9 (step_uses input s) (step-slots-rise input s)),
                (
                  eq-eqb (next_state input s).pc e.next (sym (goes-next e s (step input s) a.1)),
                  (
                    put-holds k less,
                    (end.0, (end.1, tt)),
                  ),
                ),
              ),
            ),
          ),
        ),
      )

  -- the rows of a run break no rule, and lead from place to place of the run
  pub rows-hold : (m k : ℕ) → k + m ≤ h.steps → RowsHold h input output k (place_at i input k) (rows i input k m)
  rows-hold zero k within = tt
  rows-hold (suc m) k within =
      let place : place_after h.version (row i input k) (place_at i input k) input ≡ place_at i input (k + 1) = place-next h.version i input k (row i input k) (agreed k).1 in
      (row-holds k (omega (arith, within)), subst (λ (p : Place). RowsHold h input output (k + 1) p (rows i input (k + 1) m)) (sym place) (rows-hold m (k + 1) (omega (arith, within))))

  -- and lead from place to place of the run
  pub rows-lead : (m k : ℕ) → place_through h.version input (place_at i input k) (rows i input k m) ≡ place_at i input (k + m)
  rows-lead zero k = let none : k ≡ k + 0 = omega arith in ap (place_at i input) none
  rows-lead (suc m) k =
      let place : place_after h.version (row i input k) (place_at i input k) input ≡ place_at i input (k + 1) = place-next h.version i input k (row i input k) (agreed k).1 in
      let count : k + 1 + m ≡ k + suc m = omega arith in
      ap (λ (p : Place). place_through h.version input p (rows i input (k + 1) m)) place ∙ rows-lead m (k + 1) ∙ ap (place_at i input) count
