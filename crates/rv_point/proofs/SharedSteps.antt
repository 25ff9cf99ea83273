-- Two states that share what a step uses make the same step: the expected step by the old values of one is that by the old values of the other.
use Rattle.std.proofs.Common.{◌≡◌, ◌≢◌, ℕ, ◌+◌, ◌<◌, ◌≤◌, List, [], ◌∷◌, ◌++◌, length, map, refl, sym, ◌∙◌, ap, subst, arith, append-nil}
use Rattle.std.specs.List.{AllByRecursion}
use Rattle.rv_base.specs.declared.record.Seen.{Seen}
use Rattle.rv_base.specs.declared.record.Touch.{Touch}
use Rattle.rv_spec.specs.Step.{State, Transition, Next, Ends, step}
use Rattle.rv_spec.specs.Run.{state_after, end_of, next_state}
use Rattle.rv_spec.specs.Cells.{value}
use Rattle.rv_spec.specs.Visits.{Use, visit, step_uses, visits}
use Rattle.rv_spec.specs.Trace.{access}
use Rattle.rv_rules.specs.Expected.{Expected, expected}
use Rattle.rv_rules.specs.RowRules.{seen}
use Rattle.rv_rules.specs.Agreement.{IsState, GoesAs, Agrees, touch_of}
use Rattle.rv_rules.specs.Chain.{AllDiffer}
use Rattle.rv_rules.specs.Membership.{In}
use Rattle.rv_rules.proofs.Lemmas.{all-in, all-of, in-map-back, seen-in}
use Rattle.rv_isa.specs.Ranges.{Rises}
use Rattle.rv_isa.specs.Sees.{seen_in}
use Rattle.rv_isa.specs.Follows.{SeesTouches}
use Rattle.rv_isa.proofs.Lemmas.{steps-agree, seen-follows, step-slots-rise, all-within, slot-seen}
use Rattle.rv_point.specs.SameSteps.{Share, IsSameStep, SharedStepsAreSame}

-- slots that rise are each used once
slots-differ : (lo hi : ℕ) (us : List Use) → Rises lo hi us → AllDiffer (map (λ u. u.slot) us)
slots-differ lo hi [] r = tt
slots-differ lo hi (u ∷ us) r = (
  all-of (λ y. u.slot ≢ y) (map (λ v. v.slot) us) (λ y m e. (
      let v = in-map-back (λ v. v.slot) y us m in
      let above : (u.slot + 1 ≤ v.0.slot) × (v.0.slot < hi) = all-in (λ v. (u.slot + 1 ≤ v.slot) × (v.slot < hi)) us (all-within (u.slot + 1) hi us r.1) v.0 v.1 in
      absurd (omega (arith, above.0, v.2, e))
      )),
  slots-differ (u.slot + 1) hi us r.1,
)

-- visits with the same touches, in cells that both states hold alike, are the same
visits-same : (s p t q : State) (us ws : List Use) → map touch_of (map (visit s p) us) ≡ map touch_of (map (visit t q) ws) → AllByRecursion (λ u. value t u.cell ≡ value s u.cell) us
    → (map (visit t q) ws ≡ map (visit s p) us) × (ws ≡ us)
visits-same s p t q [] [] e held = (refl, refl)
visits-same s p t q [] (w ∷ ws) e held = absurd cc
visits-same s p t q (u ∷ us) [] e held = absurd cc
visits-same s p t q (u ∷ us) (w ∷ ws) e held =
    let first : touch_of (visit s p u) ≡ touch_of (visit t q w) = cc in
    let rest : map touch_of (map (visit s p) us) ≡ map touch_of (map (visit t q) ws) = cc in
    let slot : w.slot ≡ u.slot = sym (ap (λ z. z.slot) first) in
    let cell : w.cell ≡ u.cell = sym (ap (λ z. z.cell) first) in
    let new : (visit t q w).new ≡ (visit s p u).new = sym (ap (λ z. z.new) first) in
    let old : value t w.cell ≡ value s u.cell = ap (value t) cell ∙ held.0 in
    let more = visits-same s p t q us ws rest held.1 in
    (λ i. record { slot = slot i; cell = cell i; old = old i; new = new i } ∷ more.0 i, λ i. record { slot = slot i; cell = cell i } ∷ more.1 i)

-- ---- how the step goes on

module _ (e : Expected) (s t : State) (pc : t.pc ≡ s.pc) (position : t.position ≡ s.position) where
  same-end : (p q : Transition) → GoesAs e s p → GoesAs e t q → end_of q ≡ end_of p
  same-end (Next a) (Next b) g h = refl
  same-end (Next a) (Ends f) g h = absurd cc
  same-end (Ends d) (Next b) g h = absurd cc
  same-end (Ends d) (Ends f) g h = sym h.0 ∙ g.0

  same-pc : (p q : Transition) → GoesAs e s p → GoesAs e t q → (state_after t q).pc ≡ (state_after s p).pc
  same-pc (Next a) (Next b) g h = sym h.1 ∙ g.1
  same-pc (Next a) (Ends f) g h = absurd cc
  same-pc (Ends d) (Next b) g h = absurd cc
  same-pc (Ends d) (Ends f) g h = pc

  same-position : (p q : Transition) → GoesAs e s p → GoesAs e t q → (state_after t q).position ≡ (state_after s p).position
  same-position (Next a) (Next b) g h = sym h.2 ∙ ap (λ n. n + e.took) position ∙ g.2
  same-position (Next a) (Ends f) g h = absurd cc
  same-position (Ends d) (Next b) g h = absurd cc
  same-position (Ends d) (Ends f) g h = position

-- the bytes that are put
puts : (e : Expected) (s : State) (p : Transition) → GoesAs e s p → (state_after s p).output ≡ s.output ++ e.put
puts e s (Next a) g = sym g.3
puts e s (Ends d) g = sym (ap (λ (bs : List ℕ). s.output ++ bs) g.3 ∙ append-nil s.output)

-- ---- the law

module _ (input : List ℕ) (s t : State) (first : IsState s) (second : IsState t) (within : s.position ≤ length input) (share : Share s t (step_uses input s)) where
  abbrev us : List Use
  us = step_uses input s

  abbrev v : Seen
  v = seen (map (access [] 0) (map (visit s (next_state input s)) us))

  abbrev e : Expected
  e = expected s.version s.pc v input s.position

  agreed : (e.touches ≡ map touch_of (map (visit s (next_state input s)) us)) × GoesAs e s (step input s)
  unfolding visits
  agreed = let a : Agrees input s [] 0 = steps-agree input s [] 0 first within in (a.accesses, a.goes)

  -- the old values are the other state's too
  shown : (x : Touch) → In x (map touch_of (map (visit s (next_state input s)) us)) → seen_in v x.slot ≡ value t x.cell
  shown x m =
      let a = in-map-back touch_of x (map (visit s (next_state input s)) us) m in
      let b = in-map-back (visit s (next_state input s)) a.0 us a.1 in
      let u : Use = b.0 in
      let slot : x.slot ≡ u.slot = ap (λ z. z.slot) a.2 ∙ ap (λ z. z.slot) b.2 in
      let cell : x.cell ≡ u.cell = ap (λ z. z.cell) a.2 ∙ ap (λ z. z.cell) b.2 in
      let bounds : (1 ≤ u.slot) × (u.slot < 9) = all-in (λ u. (1 ≤ u.slot) × (u.slot < 9)) us (all-within 1 9 us (step-slots-rise input s)) u b.1 in
      let holds : value t u.cell ≡ value s u.cell = all-in (λ u. value t u.cell ≡ value s u.cell) us share.held u b.1 in
      ap (seen_in v) slot ∙ slot-seen (map (access [] 0) (map (visit s (next_state input s)) us)) u.slot bounds.0 bounds.1
      ∙ seen-in [] 0 s (next_state input s) us (slots-differ 1 9 us (step-slots-rise input s)) u b.1 ∙ sym holds ∙ ap (value t) (sym cell)

  followed : (e.touches ≡ map touch_of (map (visit t (next_state input t)) (step_uses input t))) × GoesAs e t (step input t)
  unfolding visits
  followed =
      let same : e ≡ expected t.version t.pc v input t.position = λ i. expected (sym share.version i) (sym share.pc i) v input (sym share.position i) in
      let sees : SeesTouches v t e.touches = subst (λ (ts : List Touch). SeesTouches v t ts) (sym agreed.0) (all-of (λ x. seen_in v x.slot ≡ value t x.cell) (map touch_of (map (visit s (next_state input s)) us)) shown) in
      let f = seen-follows input t v second (subst (λ (d : Expected). SeesTouches v t d.touches) same sees) in
      (ap (λ (d : Expected). d.touches) same ∙ f.0, subst (λ (d : Expected). GoesAs d t (step input t)) (sym same) f.1)

  same-visits : (map (visit t (next_state input t)) (step_uses input t) ≡ map (visit s (next_state input s)) us) × (step_uses input t ≡ us)
  same-visits = visits-same s (next_state input s) t (next_state input t) us (step_uses input t) (sym agreed.0 ∙ followed.0) share.held

  pub shared-step : IsSameStep input s t
  unfolding visits
  shared-step = record {
    uses = same-visits.1;
    visits = same-visits.0;
    end = same-end e s t share.pc share.position (step input s) (step input t) agreed.1 followed.1;
    pc = same-pc e s t share.pc share.position (step input s) (step input t) agreed.1 followed.1;
    position = same-position e s t share.pc share.position (step input s) (step input t) agreed.1 followed.1;
    bytes = e.put;
    put = puts e s (step input s) agreed.1;
    same_put = puts e t (step input t) followed.1;
  }

pub shared-steps-are-same : SharedStepsAreSame
shared-steps-are-same input s t first second within share = shared-step input s t first second within share
