-- A step uses cells of its version alone.
use Rattle.std.proofs.Common.{◌≡◌, ℕ, ◌+◌, ◌/◌, ◌^◌, ◌<◌, true, false, ◌&&◌, ◌||◌, ◌==◌, List, [], ◌∷◌, ap, ◌∙◌, inl, inr, arith, nat_lt, IsTrue}
use Rattle.std.proofs.lemmas.Bool.{eq-eqb, lt-ltb, le-ltb, cases_lt, cases_order}
use Rattle.rv_spec.specs.Decode.{decode_any}
use Rattle.rv_spec.specs.Step.{State, fetch_word}
use Rattle.rv_spec.specs.Cells.{is_cell, reservation_cell}
use Rattle.rv_spec.specs.Visits.{Use, instruction_uses, step_uses}
use Rattle.rv_rules.specs.Agreement.{IsState}
use Rattle.rv_isa.specs.Ranges.{AreCells}
use Rattle.rv_isa.proofs.Placed.{IsPlaced, ArePlaced, uses-placed}

module _ (version : ℕ) where
  word-is-cell : (c : ℕ) → c < 2 ^ 30 → IsTrue (is_cell version c)
  word-is-cell c low = ap (λ b. b || (nat_lt (2 ^ 30) c && nat_lt c (2 ^ 30 + 32)) || (version == 2 && c == reservation_cell)) (lt-ltb c (2 ^ 30) low)

  register-is-cell : (c : ℕ) → 2 ^ 30 < c → c < 2 ^ 30 + 32 → IsTrue (is_cell version c)
  register-is-cell c lo hi =
      let no-word : nat_lt c (2 ^ 30) ≡ false = le-ltb c (2 ^ 30) (omega (arith, lo)) in
      λ i. no-word i || (lt-ltb (2 ^ 30) c lo i && lt-ltb c (2 ^ 30 + 32) hi i) || (version == 2 && c == reservation_cell)

  reservation-is-cell : (c : ℕ) → c ≡ reservation_cell → version ≡ 2 → IsTrue (is_cell version c)
  reservation-is-cell c is two = ap (is_cell version) is ∙ ap (λ b. b && true) (eq-eqb version 2 two)

  placed-is-cell : (u : Use) → IsPlaced version u → IsTrue (is_cell version u.cell) × (u.cell < 2 ^ 30 + 33)
  placed-is-cell u h = elim (cases_order u.slot 6) [
    | inl six ↦ (word-is-cell u.cell (h.2 six), omega (arith, h.2 six))
    | inr (inl less) ↦ other (h.3 (λ e. absurd (omega (arith, less, e))))
    | inr (inr more) ↦ other (h.3 (λ e. absurd (omega (arith, more, e))))
  ]
    where
      other : (2 ^ 30 < u.cell) × (u.cell < 2 ^ 30 + 33) → IsTrue (is_cell version u.cell) × (u.cell < 2 ^ 30 + 33)
      other range = elim (cases_lt u.cell (2 ^ 30 + 32)) [
        | inl less ↦ (register-is-cell u.cell range.0 less, range.1)
        | inr last ↦ let is : u.cell ≡ reservation_cell = omega (arith, last, range.1) in (reservation-is-cell u.cell is (h.4 is), range.1)
      ]

  placed-are-cells : (us : List Use) → ArePlaced version us → AreCells version us
  placed-are-cells [] h = tt
  placed-are-cells (u ∷ us) h = (placed-is-cell u h.0, placed-are-cells us h.1)

-- the fetch uses a word of memory, and the instruction cells of the version
pub uses-are-cells : (input : List ℕ) (s : State) → IsState s → AreCells s.version (step_uses input s)
unfolding step_uses
uses-are-cells input s is =
    let low : s.pc / 4 < 2 ^ 30 = omega (arith, is.pc) in
    ((word-is-cell s.version (s.pc / 4) low, omega (arith, low)), placed-are-cells s.version (instruction_uses input (decode_any s.version (fetch_word s)) s) (uses-placed input s is))
