-- Words that spell no cell, and no question of one.
use Rattle.std.proofs.Common.{◌≡◌, ◌≢◌, ◌==◌, ◌<◌, ◌≤◌, ◌^◌, ℕ, List, [], ◌∷◌, length, None, refl, ap, ◌∙◌, arith, if◌then◌else◌}
use Rattle.std.proofs.Math.Nat.{pow-le-pow_right}
use Rattle.std.proofs.lemmas.Bool.{ne_eqb}
use Rattle.rv_commands.specs.CommandLine.{cell_command, cell_spelled, register_spelled, word_spelled}

pub no-cell : (text : List ℕ) → ((rest : List ℕ) → text ≢ 120 ∷ rest) → ((rest : List ℕ) → text ≢ 109 ∷ rest) → cell_spelled text ≡ None
no-cell [] x m = refl
no-cell (kind ∷ rest) x m =
    ap (λ b. if b then register_spelled rest else (if kind == 109 then word_spelled rest else None)) (ne_eqb kind 120 (λ e. x rest (ap (λ k. k ∷ rest) e)))
    ∙ ap (λ b. if b then word_spelled rest else None) (ne_eqb kind 109 (λ e. m rest (ap (λ k. k ∷ rest) e)))

pub not-five : (xs : List (List ℕ)) → length xs ≢ 5 → cell_command xs ≡ None
not-five [] h = refl
not-five (a ∷ []) h = refl
not-five (a ∷ b ∷ []) h = refl
not-five (a ∷ b ∷ c ∷ []) h = refl
not-five (a ∷ b ∷ c ∷ d ∷ []) h = refl
not-five (a ∷ b ∷ c ∷ d ∷ e ∷ []) h = absurd (h refl)
not-five (a ∷ b ∷ c ∷ d ∷ e ∷ f ∷ fs) h = refl

-- the value of so many digits
pub sixteen-pow : (i j : ℕ) → i ≤ j → 16 ^ i ≤ 16 ^ j
sixteen-pow i j le = let some : 0 < 16 = omega arith in pow-le-pow_right {n = 16} some {i = i} {j = j} le
