-- What some steps of a run leave in cells.
use Rattle.std.proofs.Common.{◌≡◌, ℕ, zero, suc, ◌+◌, ◌<◌, ◌≤◌, List, [], ◌∷◌, ◌++◌, map, refl, sym, ◌∙◌, ap, subst, inl, inr, arith, append-nil, append_assoc}
use Rattle.std.specs.List.{flat_map}
use Rattle.std.proofs.lemmas.List.{map-append}
use Rattle.rv_base.specs.declared.record.Tuple.{Tuple}
use Rattle.rv_spec.specs.Elf.{Image}
use Rattle.rv_spec.specs.Step.{State}
use Rattle.rv_spec.specs.Run.{run, next_state}
use Rattle.rv_spec.specs.Cells.{time_of}
use Rattle.rv_spec.specs.Visits.{Visit, visit, step_uses, visits}
use Rattle.rv_spec.specs.Trace.{access, tuples_left, history, rows}
use Rattle.rv_rules.specs.Membership.{In}
use Rattle.rv_rules.proofs.Lemmas.{in-append, in-map-back, all-in}
use Rattle.rv_isa.proofs.Lemmas.{step-slots-rise, all-within}

-- what step number k leaves, and what n steps from it on leave
abbrev pub left_by : Image → List ℕ → ℕ → List Tuple
left_by i input k = tuples_left k (visits input (run i input k))

abbrev pub left_from : Image → List ℕ → ℕ → ℕ → List Tuple
left_from i input k zero = []
left_from i input k (suc n) = left_by i input k ++ left_from i input (k + 1) n

module _ (i : Image) (input : List ℕ) where
  -- with one step more at the end
  pub left_from-more : (n k : ℕ) → left_from i input k (suc n) ≡ left_from i input k n ++ left_by i input (k + n)
  left_from-more zero k =
      let same : k ≡ k + 0 = omega arith in
      append-nil (left_by i input k) ∙ ap (left_by i input) same
  left_from-more (suc n) k =
      let same : k + 1 + n ≡ k + suc n = omega arith in
      ap (λ (ts : List Tuple). left_by i input k ++ ts) (left_from-more n (k + 1) ∙ ap (λ m. left_from i input (k + 1) n ++ left_by i input m) same)
      ∙ sym (append_assoc (left_by i input k) (left_from i input (k + 1) n) (left_by i input (k + suc n)))

  -- the history of more steps
  pub history-more : (k n : ℕ) → history i input (k + n) ≡ history i input k ++ left_from i input k n
  unfolding history
  history-more k zero =
      let same : k + 0 ≡ k = omega arith in
      ap (history i input) same ∙ sym (append-nil (history i input k))
  history-more k (suc n) =
      let same : k + suc n ≡ suc (k + n) = omega arith in
      ap (history i input) same ∙ ap (λ (ts : List Tuple). ts ++ left_by i input (k + n)) (history-more k n)
      ∙ append_assoc (history i input k) (left_from i input k n) (left_by i input (k + n)) ∙ ap (λ (ts : List Tuple). history i input k ++ ts) (sym (left_from-more n k))

  -- ---- their times

  pub left_by-times : (k : ℕ) (w : Tuple) → In w (left_by i input k) → (time_of k 0 < w.time) × (w.time < time_of (k + 1) 0)
  unfolding visits
  left_by-times k w m =
      let s : State = run i input k in
      let v = in-map-back (λ (v : Visit). record { cell = v.cell; value = v.new; time = time_of k v.slot }) w (map (visit s (next_state input s)) (step_uses input s)) m in
      let u = in-map-back (visit s (next_state input s)) v.0 (step_uses input s) v.1 in
      let bounds : (1 ≤ u.0.slot) × (u.0.slot < 9) = all-in (λ u. (1 ≤ u.slot) × (u.slot < 9)) (step_uses input s) (all-within 1 9 (step_uses input s) (step-slots-rise input s)) u.0 u.1 in
      let time : w.time ≡ time_of k u.0.slot = ap (λ (z : Tuple). z.time) v.2 ∙ ap (λ (z : Visit). time_of k z.slot) u.2 in
      (omega (arith, time, bounds.0), omega (arith, time, bounds.1))

  pub left_from-times : (n k : ℕ) (w : Tuple) → In w (left_from i input k n) → (time_of k 0 < w.time) × (w.time < time_of (k + n) 0)
  left_from-times zero k w m = absurd m
  left_from-times (suc n) k w m = elim (in-append w (left_by i input k) (left_from i input (k + 1) n) m) [
    | inl h ↦ let b = left_by-times k w h in (b.0, omega (arith, b.1))
    | inr h ↦ let b = left_from-times n (k + 1) w h in (omega (arith, b.0), omega (arith, b.1))
  ]

  pub history-early : (k : ℕ) (w : Tuple) → In w (history i input k) → w.time < time_of k 0
  unfolding history
  history-early k w m =
      let same : history i input k ≡ left_from i input 0 k = (let none : k ≡ 0 + k = omega arith in ap (history i input) none ∙ history-more 0 k) in
      let b = left_from-times k 0 w (subst (λ (ts : List Tuple). In w ts) same m) in
      omega (arith, b.1)

  -- ---- their cells are those of the rows

  row-cells : (h : List Tuple) (k : ℕ) (vs : List Visit) → map (λ a. a.cell) (map (access h k) vs) ≡ map (λ t. t.cell) (tuples_left k vs)
  row-cells h k [] = refl
  row-cells h k (v ∷ vs) = λ j. v.cell ∷ row-cells h k vs j

  pub rows-cells : (n k : ℕ) → flat_map (λ r. map (λ a. a.cell) r.accesses) (rows i input k n) ≡ map (λ t. t.cell) (left_from i input k n)
  rows-cells zero k = refl
  rows-cells (suc n) k =
      let first = row-cells (history i input (suc k)) k (visits input (run i input k)) in
      let rest = rows-cells n (k + 1) in
      (λ j. first j ++ rest j) ∙ sym (map-append (λ (t : Tuple). t.cell) (left_by i input k) (left_from i input (k + 1) n))
