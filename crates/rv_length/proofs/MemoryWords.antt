-- A step uses at most two words of memory: its slots rise, and only the fetch and slot 6 have one.
use Rattle.std.proofs.Common.{◌≡◌, inl, inr, ℕ, zero, suc, ◌+◌, ◌-◌, ◌*◌, ◌^◌, ◌/◌, ◌≤◌, min, Bool, true, false, cond, nat_lt, List, [], ◌∷◌, ◌++◌, map, Option, refl, ap, ◌∙◌, arith}
use Rattle.std.proofs.lemmas.Bool.{cases_order, le-ltb}
use Rattle.std.proofs.lemmas.List.{map-append}
use Rattle.rv_base.specs.declared.record.Tuple.{Tuple}
use Rattle.rv_spec.specs.Elf.{Image}
use Rattle.rv_spec.specs.Step.{State, fetch_word}
use Rattle.rv_spec.specs.Decode.{AnyInstr, decode_any}
use Rattle.rv_spec.specs.Run.{run, next_state}
use Rattle.rv_spec.specs.Visits.{Use, instruction_uses, step_uses, visit, visits}
use Rattle.rv_spec.specs.Trace.{tuples_left, history}
use Rattle.rv_isa.specs.Ranges.{Rises}
use Rattle.rv_isa.proofs.Lemmas.{step-slots-rise}
use Rattle.rv_length.proofs.SlotsOfStep.{ArePlaced, free_slot, instruction-placed}

-- ---- one step

abbrev pub one_if : Bool → ℕ
one_if b = cond b 1 0

-- the words of memory among cells
abbrev pub words : List ℕ → ℕ
words [] = 0
words (c ∷ cs) = one_if (nat_lt c (2 ^ 30)) + words cs

one-at-most : (b : Bool) → one_if b ≤ 1
one-at-most true = omega arith
one-at-most false = omega arith

words-append : (cs ds : List ℕ) → words (cs ++ ds) ≡ words cs + words ds
words-append [] ds = omega arith
words-append (c ∷ cs) ds = omega (arith, words-append cs ds)

abbrev cells : List Use → List ℕ
cells us = map (λ u. u.cell) us

-- behind slot 6 there is none, and up to it one at most
placed-words : (free lo : ℕ) (us : List Use) → Rises lo 9 us → ArePlaced free us → words (cells us) ≤ min 1 (7 - lo)
placed-words free lo [] r p = omega arith
placed-words free lo (u ∷ us) r p =
    let rest = placed-words free (u.slot + 1) us r.1 p.1 in
    elim (cases_order u.slot 6) [
      | inl six ↦ omega (arith, six, r.0, rest, one-at-most (nat_lt u.cell (2 ^ 30)))
      | inr (inl less) ↦ omega (arith, less, r.0, rest, none (λ e. absurd (omega (arith, less, e))))
      | inr (inr more) ↦ omega (arith, more, r.0, rest, none (λ e. absurd (omega (arith, more, e))))
    ]
  where
    none : ¬ (u.slot ≡ 6) → one_if (nat_lt u.cell (2 ^ 30)) ≡ 0
    none other = ap one_if (le-ltb u.cell (2 ^ 30) (p.0.1 other))

step-words : (input : List ℕ) (s : State) → words (cells (step_uses input s)) ≤ 2
unfolding step_uses
step-words input s =
    let o : Option AnyInstr = decode_any s.version (fetch_word s) in
    omega (arith, one-at-most (nat_lt (s.pc / 4) (2 ^ 30)), placed-words (free_slot o) 2 (instruction_uses input o s) (step-slots-rise input s).1 (instruction-placed input o s))

-- ---- all steps

abbrev pub cells_left : List Tuple → List ℕ
cells_left ts = map (λ t. t.cell) ts

left-are-used : (k : ℕ) (s t : State) (us : List Use) → cells_left (tuples_left k (map (visit s t) us)) ≡ cells us
left-are-used k s t [] = refl
left-are-used k s t (u ∷ us) = ap (λ cs. u.cell ∷ cs) (left-are-used k s t us)

-- one step more leaves the cells that it uses
pub one-step-more : (i : Image) (input : List ℕ) (n : ℕ) → cells_left (history i input (suc n)) ≡ cells_left (history i input n) ++ map (λ u. u.cell) (step_uses input (run i input n))
unfolding history visits
one-step-more i input n =
    let s : State = run i input n in
    map-append (λ t. t.cell) (history i input n) (tuples_left n (visits input s)) ∙ ap (λ cs. cells_left (history i input n) ++ cs) (left-are-used n s (next_state input s) (step_uses input s))

pub run-words : (i : Image) (input : List ℕ) (n : ℕ) → words (cells_left (history i input n)) ≤ n * 2
unfolding history
run-words i input zero = omega arith
run-words i input (suc n) =
    let used : List ℕ = cells (step_uses input (run i input n)) in
    omega (arith, ap words (one-step-more i input n), words-append (cells_left (history i input n)) used, run-words i input n, step-words input (run i input n))
