-- What the registers and the reservation hold before the first step.
use Rattle.std.proofs.Common.{◌≡◌, ℕ, zero, suc, ◌+◌, ◌-◌, ◌^◌, Bool, true, false, cond, ◌==◌, get_or, replicate, refl, sym, ap, ◌∙◌, arith}
use Rattle.std.proofs.lemmas.Bool.{eqb-true, ne_eqb, le-ltb}
use Rattle.rv_spec.specs.Words.{word}
use Rattle.rv_spec.specs.Elf.{Image}
use Rattle.rv_spec.specs.Step.{start, register}
use Rattle.rv_spec.specs.Cells.{value, initial_value, reservation_cell}

zeros : (z n k : ℕ) → get_or (replicate n z) k z ≡ z
zeros z zero k = refl
zeros z (suc n) zero = refl
zeros z (suc n) (suc k) = zeros z n k

-- the top of the stack in x2, and 0 in each other; a number past the reservation has 0 too
pub initial-register : (i : Image) (r : ℕ) → initial_value i (2 ^ 30 + r) ≡ cond (r == 2) 0x7FFFF000 0
unfolding value
initial-register i r =
    ap (λ b. cond b (word (start i).memory (2 ^ 30 + r)) (cond (2 ^ 30 + r == reservation_cell) 0 (register (start i) (2 ^ 30 + r - 2 ^ 30)))) (le-ltb (2 ^ 30 + r) (2 ^ 30) (omega arith))
    ∙ ap (λ k. cond (2 ^ 30 + r == reservation_cell) 0 (register (start i) k)) (let k : 2 ^ 30 + r - 2 ^ 30 ≡ r = omega arith in k)
    ∙ by (2 ^ 30 + r == reservation_cell) r (λ e. let same : 2 ^ 30 + r ≡ reservation_cell = eqb-true (2 ^ 30 + r) reservation_cell e in omega arith)
  where
    by : (b : Bool) (r : ℕ) → (b ≡ true → r ≡ 32) → cond b 0 (register (start i) r) ≡ cond (r == 2) 0x7FFFF000 0
    by true r h = ap (λ k. cond (k == 2) 0x7FFFF000 0) (sym (h refl))
    by false zero h = refl
    by false (suc zero) h = refl
    by false (suc (suc zero)) h = refl
    by false (suc (suc (suc k))) h =
        ap (λ b. cond b 0 (get_or (start i).registers (suc (suc (suc k)) - 1) 0)) (ne_eqb (suc (suc (suc k))) 0 (λ e. absurd (omega arith)))
        ∙ ap (λ j. get_or (start i).registers j 0) (let j : suc (suc (suc k)) - 1 ≡ suc (suc k) = omega arith in j)
        ∙ zeros 0 29 k
        ∙ ap (λ b. cond b 0x7FFFF000 0) (sym (ne_eqb (suc (suc (suc k))) 2 (λ e. absurd (omega arith))))
