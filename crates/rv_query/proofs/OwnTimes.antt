-- The accesses of a trace have times of their own, which rise from 1 on.
use Rattle.std.proofs.Common.{◌≡◌, ℕ, zero, suc, ◌+◌, ◌≤◌, true, false, cond, ◌==◌, List, [], ◌∷◌, ◌++◌, map, find, Some, option_map, unwrap_or, refl, sym, ap, subst, ◌∙◌, inl, inr, arith}
use Rattle.std.proofs.lemmas.List.{map-append}
use Rattle.std.proofs.lemmas.Bool.{eqb-true}
use Rattle.rv_base.specs.declared.record.Tuple.{Tuple}
use Rattle.rv_spec.specs.Elf.{Image}
use Rattle.rv_spec.specs.Step.{State}
use Rattle.rv_spec.specs.Run.{run, next_state}
use Rattle.rv_spec.specs.Cells.{time_of}
use Rattle.rv_spec.specs.Visits.{Use, visit, visits, step_uses}
use Rattle.rv_spec.specs.Trace.{history, access, row, rows, left_at}
use Rattle.rv_rules.specs.Chain.{at}
use Rattle.rv_rules.specs.Membership.{In}
use Rattle.rv_rules.proofs.Lemmas.{at-is, right-true}
use Rattle.rv_isa.specs.Ranges.{Rises}
use Rattle.rv_isa.proofs.Lemmas.{step-slots-rise}
use Rattle.rv_query.specs.Accesses.{Numbered, own_time, numbered}
use Rattle.rv_query.proofs.Rows.{of_row}
use Rattle.rv_query.proofs.TraceRows.{left_by}

-- numbers that rise from one bound to below another
abbrev pub Rise : ℕ → ℕ → List ℕ → Type 0
Rise lo hi [] = lo ≤ hi
Rise lo hi (t ∷ ts) = (lo ≤ t) × Rise (t + 1) hi ts

rise-lower : (lo mid hi : ℕ) (ts : List ℕ) → lo ≤ mid → Rise mid hi ts → Rise lo hi ts
rise-lower lo mid hi [] h r = omega (arith, h, r)
rise-lower lo mid hi (t ∷ ts) h r = (omega (arith, h, r.0), r.1)

rise-join : (lo mid hi : ℕ) (ts us : List ℕ) → Rise lo mid ts → Rise mid hi us → Rise lo hi (ts ++ us)
rise-join lo mid hi [] us h r = rise-lower lo mid hi us h r
rise-join lo mid hi (t ∷ ts) us h r = (h.0, rise-join (t + 1) mid hi ts us h.1 r)

abbrev made : List Tuple → ℕ → State → State → List Use → List ℕ
made h k s t us = map own_time (map (λ a. record { step = k; access = a }) (map (access h k) (map (visit s t) us)))

uses-rise : (h : List Tuple) (k : ℕ) (s t : State) (lo hi : ℕ) (us : List Use) → Rises lo hi us
    → Rise (time_of k lo) (time_of k hi) (made h k s t us)
uses-rise h k s t lo hi [] r = omega (arith, r)
uses-rise h k s t lo hi (u ∷ us) r =
    let next : time_of k (u.slot + 1) ≡ time_of k u.slot + 1 = omega arith in
    (omega (arith, r.0), subst (λ m. Rise m (time_of k hi) (made h k s t us)) next (uses-rise h k s t (u.slot + 1) hi us r.1))

module _ (i : Image) (input : List ℕ) where
  rows-rise : (c k : ℕ) → Rise (time_of k 1) (time_of (k + c) 1) (map own_time (numbered k (rows i input k c)))
  unfolding visits
  rows-rise zero k = omega arith
  rows-rise (suc c) k =
      let s : State = run i input k in
      let later : List Numbered = numbered (k + 1) (rows i input (k + 1) c) in
      let end : time_of (k + 1 + c) 1 ≡ time_of (k + suc c) 1 = omega arith in
      subst (λ l. Rise (time_of k 1) (time_of (k + suc c) 1) l) (sym (map-append own_time (of_row k (row i input k)) later))
      (rise-join (time_of k 1) (time_of k 9) (time_of (k + suc c) 1) (map own_time (of_row k (row i input k))) (map own_time later)
      (uses-rise (history i input (suc k)) k s (next_state input s) 1 9 (step_uses input s) (step-slots-rise input s))
      (rise-lower (time_of k 9) (time_of (k + 1) 1) (time_of (k + suc c) 1) (map own_time later) (omega arith) (subst (λ m. Rise (time_of (k + 1) 1) m (map own_time later)) end (rows-rise c (k + 1)))))

  pub trace-rises : (s : ℕ) → Rise 1 (time_of s 1) (map own_time (numbered 0 (rows i input 0 s)))
  trace-rises s = let none : time_of (0 + s) 1 ≡ time_of s 1 = omega arith in subst (λ m. Rise 1 m (map own_time (numbered 0 (rows i input 0 s)))) none (rows-rise s 0)

pub rise-above : (lo hi : ℕ) (xs : List Numbered) → Rise lo hi (map own_time xs) → (a : Numbered) → In a xs → lo ≤ own_time a
rise-above lo hi [] r a m = absurd m
rise-above lo hi (x ∷ xs) r a (inl same) = omega (arith, r.0, ap own_time same)
rise-above lo hi (x ∷ xs) r a (inr m) = omega (arith, r.0, rise-above (own_time x + 1) hi xs r.1 a m)

-- what is left at the time of an access is what it left
pub left-at : (lo hi : ℕ) (xs : List Numbered) → Rise lo hi (map own_time xs) → (a : Numbered) → In a xs → left_at (map left_by xs) a.access.cell (own_time a) ≡ a.access.new
left-at lo hi [] r a m = absurd m
left-at lo hi (x ∷ xs) r a (inl same) =
    let here : at a.access.cell (own_time a) (left_by x) ≡ true = at-is a.access.cell (own_time a) (left_by x) (ap (λ (y : Numbered). y.access.cell) (sym same)) (ap own_time (sym same)) in
    ap (λ b. unwrap_or (option_map (λ z. z.value) (cond b (Some (left_by x)) (find (at a.access.cell (own_time a)) (map left_by xs)))) 0) here ∙ ap (λ (y : Numbered). y.access.new) (sym same)
left-at lo hi (x ∷ xs) r a (inr m) =
    let later : own_time x + 1 ≤ own_time a = rise-above (own_time x + 1) hi xs r.1 a m in
    let fails : at a.access.cell (own_time a) (left_by x) ≡ false = elim (at a.access.cell (own_time a) (left_by x)) as (λ b. at a.access.cell (own_time a) (left_by x) ≡ b → b ≡ false) [
      | true ↦ λ e. absurd (omega (arith, later, eqb-true (own_time x) (own_time a) (right-true (x.access.cell == a.access.cell) (own_time x == own_time a) e)))
      | false ↦ λ e. refl
    ] refl in
    ap (λ b. unwrap_or (option_map (λ z. z.value) (cond b (Some (left_by x)) (find (at a.access.cell (own_time a)) (map left_by xs)))) 0) fails ∙ left-at (own_time x + 1) hi xs r.1 a m
