-- A row that breaks no rule, where the accesses of the file form a chain and those before it are the run's: its accesses are those of the run's step.
use Rattle.std.proofs.Common.{◌≡◌, ℕ, zero, suc, ◌+◌, ◌<◌, ◌≤◌, List, [], ◌∷◌, ◌++◌, map, refl, sym, ◌∙◌, ap, subst, inl, inr, arith}
use Rattle.std.specs.List.{AllByRecursion}
use Rattle.rv_base.specs.declared.record.Access.{Access}
use Rattle.rv_base.specs.declared.record.TableEntry.{TableEntry}
use Rattle.rv_base.specs.declared.record.Touch.{Touch}
use Rattle.rv_base.specs.declared.record.Tuple.{Tuple}
use Rattle.rv_spec.specs.Elf.{Image}
use Rattle.rv_spec.specs.Step.{State}
use Rattle.rv_spec.specs.Run.{run}
use Rattle.rv_spec.specs.Cells.{value, initial_value, time_of}
use Rattle.rv_spec.specs.Visits.{Use, Visit, visit}
use Rattle.rv_spec.specs.Trace.{tuples_left, history, last_use, access}
use Rattle.rv_spec.specs.Tuples.{Event, event, tuple_written}
use Rattle.rv_rules.specs.Chain.{AreOrdered, IsChain, value_before}
use Rattle.rv_rules.specs.RowRules.{seen}
use Rattle.rv_rules.specs.Agreement.{HoldsLastUses, touch_of}
use Rattle.rv_rules.specs.Membership.{In}
use Rattle.rv_rules.proofs.Lemmas.{in-map-back, all-in, all-of}
use Rattle.rv_isa.specs.Sees.{seen_in}
use Rattle.rv_isa.specs.Shape.{AreShaped}
use Rattle.rv_isa.specs.Follows.{SeesTouches}
use Rattle.rv_isa.proofs.Lemmas.{slot-seen}
use Rattle.rv_sound.proofs.RowFollows.{touch_in}
use Rattle.rv_sound.proofs.RowShape.{InShape, shaped-in, old-is, left-as-found}
use Rattle.rv_sound.proofs.AtRow.{from-here, last-up-to-row, held-before-or-left-here}

-- ---- lists of accesses as those of a step

tuple_at : ℕ → Touch → Tuple
tuple_at k t = record { cell = t.cell; value = t.new; time = time_of k t.slot }

left-row : (k : ℕ) (accs : List Access) → map tuple_written (map (event k) accs) ≡ map (tuple_at k) (map touch_in accs)
unfolding tuple_at
left-row k [] = refl
left-row k (a ∷ accs) = λ i. tuple_written (event k a) ∷ left-row k accs i

left-visits : (k : ℕ) (vs : List Visit) → map (tuple_at k) (map touch_of vs) ≡ tuples_left k vs
unfolding tuple_at
left-visits k [] = refl
left-visits k (v ∷ vs) = λ i. record { cell = v.cell; value = v.new; time = time_of k v.slot } ∷ left-visits k vs i

pub left-same : (k : ℕ) (accs : List Access) (vs : List Visit) → map touch_in accs ≡ map touch_of vs → map tuple_written (map (event k) accs) ≡ tuples_left k vs
left-same k accs vs e = left-row k accs ∙ ap (map (tuple_at k)) e ∙ left-visits k vs

-- accesses with the slots, cells and new values of a step, whose old values and times before are the run's, are the accesses of the run's row
pub accesses-same : (h : List Tuple) (k : ℕ) (s t : State) (us : List Use) (accs : List Access) → map touch_in accs ≡ map touch_of (map (visit s t) us)
    → AllByRecursion (λ a. a.old ≡ value s a.cell) accs → AllByRecursion (λ a. a.prev ≡ last_use h a.cell (time_of k a.slot)) accs → accs ≡ map (access h k) (map (visit s t) us)
accesses-same h k s t [] [] e old-is-held prevs = refl
accesses-same h k s t [] (a ∷ accs) e old-is-held prevs = absurd cc
accesses-same h k s t (u ∷ us) [] e old-is-held prevs = absurd cc
accesses-same h k s t (u ∷ us) (a ∷ accs) e old-is-held prevs =
    let first : touch_in a ≡ touch_of (visit s t u) = cc in
    let rest : map touch_in accs ≡ map touch_of (map (visit s t) us) = cc in
    let slot : a.slot ≡ u.slot = ap (λ z. z.slot) first in
    let cell : a.cell ≡ u.cell = ap (λ z. z.cell) first in
    let new : a.new ≡ (visit s t u).new = ap (λ z. z.new) first in
    let old : a.old ≡ value s u.cell = old-is-held.0 ∙ ap (value s) cell in
    let prev : a.prev ≡ last_use h u.cell (time_of k u.slot) = prevs.0 ∙ (λ i. last_use h (cell i) (time_of k (slot i))) in
    let more = accesses-same h k s t us accs rest old-is-held.1 prevs.1 in
    λ i. record { slot = slot i; cell = cell i; old = old i; prev = prev i; new = new i } ∷ more i

-- ---- a row within the chain

module _ (i : Image) (input : List ℕ) (es : List Event) (table : List TableEntry) (bound : ℕ) (o : AreOrdered es table bound) (c : IsChain (initial_value i) es table bound)
    (lasts : (n : ℕ) → HoldsLastUses i input n) (k : ℕ) (accs : List Access) (before later : List Event) (split : es ≡ before ++ (map (event k) accs ++ later))
    (hist : map tuple_written before ≡ history i input k) (early : AllByRecursion (λ e. e.time < time_of k 0) before) (late : AllByRecursion (λ e. time_of (k + 1) 0 ≤ e.time) later)
    (shaped : AreShaped (seen accs) 1 9 (map touch_in accs)) where
  abbrev own : List Tuple
  own = map tuple_written es

  abbrev s : State
  s = run i input k

  within : (a : Access) → In a accs → InShape (seen accs) 1 9 (touch_in a)
  within a m = shaped-in (seen accs) 1 9 accs shaped a m

  -- what the state holds in a cell, by the accesses before
  state-holds : (cell : ℕ) → value s cell ≡ value_before (initial_value i) (map tuple_written before) cell (time_of k 0)
  state-holds cell = lasts k cell ∙ ap (λ ts. value_before (initial_value i) ts cell (time_of k 0)) (sym hist)

  -- The old values are those that the state holds, slot by slot: where the last use of the cell is in the row, it left what it found, and what it found is what the state holds.
  old-is-held : (m : ℕ) (a : Access) → In a accs → a.slot < m → a.old ≡ value s a.cell
  old-is-held zero a m less = absurd (omega arith)
  old-is-held (suc n) a m less =
      let is : a.old ≡ value_before (initial_value i) own a.cell (time_of k a.slot) = all-in (λ e. e.old ≡ value_before (initial_value i) own e.cell e.time) es c.values (event k a) (from-here es before later k accs split o.differ early late shaped a m) in
      elim (held-before-or-left-here es before later k accs split o.differ early late shaped (initial_value i) a m) [
        | inl same ↦ is ∙ same ∙ sym (state-holds a.cell)
        | inr b ↦ is ∙ b.4 ∙ left-as-found accs shaped b.0 a b.1 m b.2 b.3 ∙ old-is-held n b.0 b.1 (omega (arith, b.3, less)) ∙ ap (value s) b.2
      ]

  -- so with all accesses of the row
  pub olds-are-held : AllByRecursion (λ a. a.old ≡ value s a.cell) accs
  olds-are-held = all-of (λ a. a.old ≡ value s a.cell) accs (λ a m. old-is-held 9 a m (within a m).below)

  -- the slots show what the state holds
  shown : (t : Touch) → In t (map touch_in accs) → seen_in (seen accs) t.slot ≡ value s t.cell
  shown t m =
      let r = in-map-back touch_in t accs m in
      let b = within r.0 r.1 in
      subst (λ (z : Touch). seen_in (seen accs) z.slot ≡ value s z.cell) (sym r.2) (slot-seen accs r.0.slot b.above b.below ∙ old-is (seen accs) 1 9 accs shaped r.0 r.1 ∙ old-is-held 9 r.0 r.1 b.below)

  pub slots-show-state : SeesTouches (seen accs) s (map touch_in accs)
  slots-show-state = all-of (λ t. seen_in (seen accs) t.slot ≡ value s t.cell) (map touch_in accs) shown

  -- the times before are those of the last uses up to this row
  pub prevs-are-last-uses : AllByRecursion (λ a. a.prev ≡ last_use (map tuple_written (before ++ map (event k) accs)) a.cell (time_of k a.slot)) accs
  prevs-are-last-uses = all-of (λ a. a.prev ≡ last_use (map tuple_written (before ++ map (event k) accs)) a.cell (time_of k a.slot)) accs
      (λ a m. all-in (λ e. e.prev ≡ last_use own e.cell e.time) es c.times (event k a) (from-here es before later k accs split o.differ early late shaped a m) ∙ last-up-to-row es before later k accs split o.differ early late shaped a m)
