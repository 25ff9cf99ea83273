-- What a state of a run holds in a cell is what the last use left there, or the initial value.
use Rattle.std.proofs.Common.{◌≡◌, ◌≢◌, ◌⊎◌, ℕ, zero, suc, ◌+◌, ◌<◌, ◌≤◌, Bool, true, false, cond, ◌==◌, nat_le, List, [], ◌∷◌, ◌++◌, map, find, option_map, unwrap_or, Some, refl, sym, ◌∙◌, ap, arith, inl, inr}
use Rattle.std.proofs.lemmas.Bool.{eqb-true, eqb-false, ne_eqb, leb-true}
use Rattle.rv_base.specs.declared.record.Tuple.{Tuple}
use Rattle.rv_spec.specs.Elf.{Image}
use Rattle.rv_spec.specs.Decode.{decode_any}
use Rattle.rv_spec.specs.Step.{State, Transition, Next, Ends, fetch_word, step}
use Rattle.rv_spec.specs.Run.{state_after, next_state, run}
use Rattle.rv_spec.specs.Cells.{value, initial_value, time_of}
use Rattle.rv_spec.specs.Visits.{Use, Visit, step_uses, visit, visits}
use Rattle.rv_spec.specs.Trace.{tuples_left, history, last_use, left_at}
use Rattle.rv_rules.specs.Chain.{at, value_before}
use Rattle.rv_rules.specs.Agreement.{HoldsLastUses}
use Rattle.rv_rules.specs.Membership.{In}
use Rattle.rv_rules.proofs.Lemmas.{in-map, at-is, last_use-is, left-true, right-true, in-append, in-left, in-right, in-map-back, all-in, all-of}
use Rattle.rv_isa.proofs.Slots.{Rises, slots-rise, all-within}
use Rattle.rv_isa.proofs.Frame.{Spares, Keeps, step-keeps}

-- ---- what is left at a time

left-at : (ts : List Tuple) (c p v : ℕ) (w : Tuple) → In w ts → w.cell ≡ c → w.time ≡ p → ((u : Tuple) → In u ts → u.cell ≡ c → u.time ≡ p → u.value ≡ v) → left_at ts c p ≡ v
left-at [] c p v w m cell time same = absurd m
left-at (x ∷ xs) c p v w m cell time same = go (at c p x) refl m (λ k. left-at xs c p v w k cell time (λ u n. same u (inr n)))
  where
    go : (b : Bool) → at c p x ≡ b → In w (x ∷ xs) → (In w xs → left_at xs c p ≡ v) → unwrap_or (option_map (λ t. t.value) (cond b (Some x) (find (at c p) xs))) 0 ≡ v
    go true e k rest = same x (inl refl) (eqb-true x.cell c (left-true (x.cell == c) (x.time == p) e)) (eqb-true x.time p (right-true (x.cell == c) (x.time == p) e))
    go false e (inl is) rest =
        let passes : at c p x ≡ true = at-is c p x (ap (λ z. z.cell) (sym is) ∙ cell) (ap (λ z. z.time) (sym is) ∙ time) in
        let no : ⊥ = cc in
        absurd no
    go false e (inr k) rest = rest k

-- the last use of a cell left a value
pub record LeftBy (ts : List Tuple) (c v bound : ℕ) (w : Tuple) : Type 0 where
  pub stands : In w ts
  pub cell : w.cell ≡ c
  pub some : 0 < w.time
  pub early : w.time < bound
  pub most : (u : Tuple) → In u ts → u.cell ≡ c → u.time ≤ w.time
  pub same : (u : Tuple) → In u ts → u.cell ≡ c → u.time ≡ w.time → u.value ≡ v

-- the value is the initial one of a cell without uses, or what the last use left
abbrev pub Holds : (ℕ → ℕ) → List Tuple → ℕ → ℕ → ℕ → Type 0
Holds initial ts c v bound = (((u : Tuple) → In u ts → u.cell ≢ c) × (v ≡ initial c)) ⊎ ((w : Tuple) × LeftBy ts c v bound w)

held : (initial : ℕ → ℕ) (ts : List Tuple) (c v bound : ℕ) → Holds initial ts c v bound → v ≡ value_before initial ts c bound
held initial ts c v bound (inl none) =
    let last : last_use ts c bound ≡ 0 = last_use-is ts c bound 0 (λ w m cell early. absurd (none.0 w m cell)) (inl refl) in
    none.1 ∙ ap (λ p. cond (p == 0) (initial c) (left_at ts c p)) (sym last)
held initial ts c v bound (inr l) =
    let w : Tuple = l.0 in
    let is : LeftBy ts c v bound w = l.1 in
    let last : last_use ts c bound ≡ w.time = last_use-is ts c bound w.time (λ u m cell early. is.most u m cell) (inr (w, is.stands, is.cell, refl, is.early)) in
    let some : (w.time == 0) ≡ false = ne_eqb w.time 0 (λ e. absurd (omega (arith, is.some, e))) in
    sym (ap (λ p. cond (p == 0) (initial c) (left_at ts c p)) last ∙ ap (λ b. cond b (initial c) (left_at ts c w.time)) some ∙ left-at ts c w.time v w is.stands is.cell refl is.same)

-- ---- the last use of a cell within a step

LastIn : ℕ → List Use → Use → Type 0
LastIn c us u = In u us × (u.cell ≡ c) × ((x : Use) → In x us → x.cell ≡ c → x.slot ≤ u.slot)

last-of : (c : ℕ) (us : List Use) (lo hi : ℕ) → Rises lo hi us → ((u : Use) → In u us → u.cell ≢ c) ⊎ ((u : Use) × LastIn c us u)
unfolding LastIn
last-of c [] lo hi r = inl (λ u m. absurd m)
last-of c (x ∷ xs) lo hi r = go (x.cell == c) refl (last-of c xs (x.slot + 1) hi r.1)
  where
    go : (b : Bool) → (x.cell == c) ≡ b → ((u : Use) → In u xs → u.cell ≢ c) ⊎ ((u : Use) × (In u xs × (u.cell ≡ c) × ((y : Use) → In y xs → y.cell ≡ c → y.slot ≤ u.slot)))
        → ((u : Use) → In u (x ∷ xs) → u.cell ≢ c) ⊎ ((u : Use) × (In u (x ∷ xs) × (u.cell ≡ c) × ((y : Use) → In y (x ∷ xs) → y.cell ≡ c → y.slot ≤ u.slot)))
    go b e (inr l) =
        let u : Use = l.0 in
        let above : x.slot + 1 ≤ u.slot = (all-in (λ v. (x.slot + 1 ≤ v.slot) × (v.slot < hi)) xs (all-within (x.slot + 1) hi xs r.1) u l.1.0).0 in
        inr (u, (inr l.1.0, l.1.1, λ y m same. elim m [ inl is ↦ omega (arith, above, ap (λ z. z.slot) is) | inr k ↦ l.1.2 y k same ]))
    go true e (inl none) = inr (x, (inl refl, eqb-true x.cell c e, λ y m same. elim m [ inl is ↦ omega (arith, ap (λ z. z.slot) is) | inr k ↦ absurd (none y k same) ]))
    go false e (inl none) = inl (λ u m same. elim m [ inl is ↦ eqb-false x.cell c e (ap (λ z. z.cell) (sym is) ∙ same) | inr k ↦ none u k same ])

-- ---- a step

pub after-kept : (c : ℕ) (s : State) (turn : Transition) → Keeps c s turn → value (state_after s turn) c ≡ value s c
after-kept c s (Next t) h = h
after-kept c s (Ends e) h = refl

abbrev left : ℕ → Visit → Tuple
left n v = record { cell = v.cell; value = v.new; time = time_of n v.slot }

module _ (initial : ℕ → ℕ) (input : List ℕ) (s : State) (n c : ℕ) (ts : List Tuple) (earlier : (w : Tuple) → In w ts → w.time < time_of n 0) where
  abbrev us : List Use
  us = step_uses input s

  abbrev t : State
  t = next_state input s

  abbrev all : List Tuple
  all = ts ++ tuples_left n (map (visit s t) us)

  rise : Rises 1 9 us
  unfolding step_uses
  rise = (omega arith, slots-rise input (decode_any s.version (fetch_word s)) s)

  kept : Spares c us → value t c ≡ value s c
  kept h = after-kept c s (step input s) (step-keeps input s c h)

  -- a tuple is an earlier one, or that of a use of the step
  parts : (w : Tuple) → In w all → In w ts ⊎ ((u : Use) × In u us × (w ≡ left n (visit s t u)))
  parts w m = elim (in-append w ts (tuples_left n (map (visit s t) us)) m) [
    | inl h ↦ inl h
    | inr h ↦
        let a = in-map-back (left n) w (map (visit s t) us) h in
        let b = in-map-back (visit s t) a.0 us a.1 in
        inr (b.0, b.1, a.2 ∙ ap (left n) b.2)
  ]

  unused : ((u : Use) → In u us → u.cell ≢ c) → Holds initial ts c (value s c) (time_of n 0) → Holds initial all c (value t c) (time_of (suc n) 0)
  unused none h =
      let same : value t c ≡ value s c = kept (all-of (λ u. 6 ≤ u.slot → u.cell ≢ c) us (λ u m late. none u m)) in
      let old : (w : Tuple) → In w all → w.cell ≡ c → In w ts = λ w m cell. elim (parts w m) [ inl k ↦ k | inr p ↦ absurd (none p.0 p.1 (ap (λ z. z.cell) (sym p.2) ∙ cell)) ] in
      elim h [
        | inl first ↦ inl ((λ u m cell. first.0 u (old u m cell) cell), same ∙ first.1)
        | inr l ↦
            let w : Tuple = l.0 in
            let is : LeftBy ts c (value s c) (time_of n 0) w = l.1 in
            inr (
              w,
              record {
                stands = in-left w ts (tuples_left n (map (visit s t) us)) is.stands;
                cell = is.cell;
                some = is.some;
                early = omega (arith, is.early);
                most = λ u m cell. is.most u (old u m cell) cell;
                same = λ u m cell time. is.same u (old u m cell) cell time ∙ sym same;
              },
            )
      ]

  used : (u : Use) → LastIn c us u → Holds initial all c (value t c) (time_of (suc n) 0)
  unfolding LastIn
  used u l =
      let bounds : (1 ≤ u.slot) × (u.slot < 9) = all-in (λ u. (1 ≤ u.slot) × (u.slot < 9)) us (all-within 1 9 us rise) u l.0 in
      let new : (x : Use) → x.cell ≡ c → x.slot ≡ u.slot → (visit s t x).new ≡ value t c = λ x cell slot.
      elim (nat_le x.slot 5) as (λ b. nat_le x.slot 5 ≡ b → cond b (value s x.cell) (value t x.cell) ≡ value t c) [
        | true ↦ λ e.
            let low : x.slot ≤ 5 = leb-true x.slot 5 e in
            let spared : Spares c us = all-of (λ y. 6 ≤ y.slot → y.cell ≢ c) us (λ y m late same. (let less : y.slot ≤ u.slot = l.2 y m same in absurd (omega arith))) in
            ap (value s) cell ∙ sym (kept spared)
        | false ↦ λ e. ap (value t) cell
      ] refl in
      let w : Tuple = left n (visit s t u) in
      inr (
        w,
        record {
          stands = in-right w ts (tuples_left n (map (visit s t) us)) (in-map (left n) (visit s t u) (map (visit s t) us) (in-map (visit s t) u us l.0));
          cell = l.1;
          some = omega (arith, bounds.0);
          early = omega (arith, bounds.1);
          most = λ y m cell. elim (parts y m) [
            | inl k ↦ omega (arith, earlier y k)
            | inr p ↦
                let x : Use = p.0 in
                let less : x.slot ≤ u.slot = l.2 x p.1 (ap (λ z. z.cell) (sym p.2) ∙ cell) in
                omega (arith, less, ap (λ z. z.time) p.2)
          ];
          same = λ y m cell time. elim (parts y m) [
            | inl k ↦ absurd (omega (arith, earlier y k, time, bounds.0))
            | inr p ↦
                let x : Use = p.0 in
                let slot : x.slot ≡ u.slot = omega (arith, time, ap (λ z. z.time) p.2) in
                ap (λ z. z.value) p.2 ∙ new x (ap (λ z. z.cell) (sym p.2) ∙ cell) slot
          ];
        },
      )

  step-holds : Holds initial ts c (value s c) (time_of n 0) → Holds initial all c (value t c) (time_of (suc n) 0)
  step-holds h = elim (last-of c us 1 9 rise) [ inl none ↦ unused none h | inr l ↦ used l.0 l.1 ]

  all-earlier : (w : Tuple) → In w all → w.time < time_of (suc n) 0
  all-earlier w m = elim (parts w m) [
    | inl k ↦ omega (arith, earlier w k)
    | inr p ↦
        let x : Use = p.0 in
        let bounds : (1 ≤ x.slot) × (x.slot < 9) = all-in (λ u. (1 ≤ u.slot) × (u.slot < 9)) us (all-within 1 9 us rise) x p.1 in
        omega (arith, bounds.1, ap (λ z. z.time) p.2)
  ]

-- ---- runs

pub run-earlier : (i : Image) (input : List ℕ) (n : ℕ) (w : Tuple) → In w (history i input n) → w.time < time_of n 0
unfolding history visits run
run-earlier i input zero w m = absurd m
run-earlier i input (suc n) w m = all-earlier (initial_value i) input (run i input n) n 0 (history i input n) (run-earlier i input n) w m

pub run-holds : (i : Image) (input : List ℕ) (n c : ℕ) → Holds (initial_value i) (history i input n) c (value (run i input n) c) (time_of n 0)
unfolding history visits run
run-holds i input zero c = inl ((λ u m. absurd m), refl)
run-holds i input (suc n) c = step-holds (initial_value i) input (run i input n) n c (history i input n) (run-earlier i input n) (run-holds i input n c)

pub holds-last-uses : (i : Image) (input : List ℕ) (n : ℕ) → HoldsLastUses i input n
holds-last-uses i input n c = held (initial_value i) (history i input n) c (value (run i input n) c) (time_of n 0) (run-holds i input n c)
