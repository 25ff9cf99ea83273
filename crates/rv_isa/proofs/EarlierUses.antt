-- Of two uses of one cell in a step, the earlier one only reads.
use Rattle.std.proofs.Common.{◌≡◌, ℕ, ◌^◌, ◌<◌, ◌≤◌, ◌+◌, List, inl, inr, ap, arith}
use Rattle.std.proofs.lemmas.Bool.{cases_order}
use Rattle.rv_spec.specs.Decode.{decode_any}
use Rattle.rv_spec.specs.Step.{State, fetch_word}
use Rattle.rv_spec.specs.Cells.{reservation_cell}
use Rattle.rv_spec.specs.Visits.{Use, instruction_uses, step_uses}
use Rattle.rv_rules.specs.Agreement.{IsState}
use Rattle.rv_rules.specs.Membership.{In}
use Rattle.rv_rules.proofs.Lemmas.{all-in}
use Rattle.rv_isa.proofs.Placed.{IsPlaced, uses-placed}

-- slots up to 5 only read
abbrev pub ReadFirst : List Use → Type 0
ReadFirst us = (p u : Use) → In p us → In u us → p.cell ≡ u.cell → p.slot < u.slot → p.slot ≤ 5

placed-apart : (version : ℕ) (p u : Use) → IsPlaced version p → IsPlaced version u → p.cell ≡ u.cell → p.slot < u.slot → p.slot ≤ 5
placed-apart version p u h k same less = elim (cases_order p.slot 6) [
  | inl six ↦
      let word : p.cell < 2 ^ 30 = h.2 six in
      let other : (2 ^ 30 < u.cell) × (u.cell < 2 ^ 30 + 33) = k.3 (λ e. absurd (omega (arith, e, six, less))) in
      absurd (omega (arith, word, other.0, same))
  | inr (inl early) ↦ omega (arith, early)
  | inr (inr late) ↦
      let within : u.slot < 9 = k.1 in
      let register : p.cell < 2 ^ 30 + 32 = h.5 (omega (arith, late, less, within)) in
      let reservation : u.cell ≡ reservation_cell = k.6 (omega (arith, late, less, within)) in
      absurd (omega (arith, register, reservation, same))
]

pub step-reads : (input : List ℕ) (s : State) → IsState s → ReadFirst (step_uses input s)
unfolding step_uses
step-reads input s is p u (inl first) n same less = (let slot : p.slot ≡ 1 = ap (λ (x : Use). x.slot) first in omega (arith, slot))
step-reads input s is p u (inr m) (inl first) same less =
    let slot : u.slot ≡ 1 = ap (λ (x : Use). x.slot) first in
    let placed : IsPlaced s.version p = all-in (IsPlaced s.version) (instruction_uses input (decode_any s.version (fetch_word s)) s) (uses-placed input s is) p m in
    absurd (omega (arith, slot, less, placed.0))
step-reads input s is p u (inr m) (inr n) same less =
    let us : List Use = instruction_uses input (decode_any s.version (fetch_word s)) s in
    placed-apart s.version p u (all-in (IsPlaced s.version) us (uses-placed input s is) p m) (all-in (IsPlaced s.version) us (uses-placed input s is) u n) same less
