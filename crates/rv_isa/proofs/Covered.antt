-- The operands of an instruction tell the cells that it uses.
use Rattle.std.proofs.Common.{◌≡◌, ℕ, ◌+◌, ◌/◌, ◌%◌, ◌^◌, ◌<◌, Bool, true, false, cond, ◌==◌, pos, List, [], ◌∷◌, ◌++◌, ◌∙◌, arith}
use Rattle.std.specs.List.{AllByRecursion}
use Rattle.rv_spec.specs.Words.{plus}
use Rattle.rv_spec.specs.Step.{State, register}
use Rattle.rv_spec.specs.Cells.{register_cell}
use Rattle.rv_spec.specs.Visits.{Use, use_of, use_register}
use Rattle.rv_isa.specs.declared.operands.Operands.{Operands}
use Rattle.rv_rules.specs.Agreement.{IsState}
use Rattle.rv_isa.specs.Operands.{cell_in, IsCovered}
use Rattle.rv_isa.proofs.WordRanges.{register-fits}

abbrev pub AreCovered : Operands → State → List Use → Type 0
AreCovered o s us = AllByRecursion (IsCovered o s) us

pub covered-append : (o : Operands) (s : State) (us vs : List Use) → AreCovered o s us → AreCovered o s vs → AreCovered o s (us ++ vs)
covered-append o s [] vs h k = k
covered-append o s (u ∷ us) vs h k = (h.0, covered-append o s us vs h.1 k)

pub covered-cond : (o : Operands) (s : State) (b : Bool) (us vs : List Use) → AreCovered o s us → AreCovered o s vs → AreCovered o s (cond b us vs)
covered-cond o s true us vs h k = h
covered-cond o s false us vs h k = k

pub covered-register : (o : Operands) (s : State) (j r : ℕ) → register_cell r ≡ cell_in o s j → AreCovered o s (use_register j r)
covered-register o s j r e = covered-cond o s (r == 0) [] (use_of j (register_cell r)) tt (e, tt)

pub covered-one : (o : Operands) (s : State) (j cell : ℕ) → cell ≡ cell_in o s j → AreCovered o s (use_of j cell)
covered-one o s j cell e = (e, tt)

-- the word at a register
pub covered-base : (o : Operands) (s : State) (r : ℕ) → IsState s → plus (register s r) (pos 0) / 4 ≡ cell_in o s 6 → AreCovered o s (use_of 6 (register s r / 4))
covered-base o s r is e =
    let small : register s r < 2 ^ 32 = register-fits s r is in
    let same : register s r / 4 ≡ (register s r + 0) % 2 ^ 32 / 4 = omega arith in
    (same ∙ e, tt)

pub ruleset covering = (covered-append, covered-cond, covered-register, covered-one, covered-base)
