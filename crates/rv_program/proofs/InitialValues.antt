-- What cells hold before the first step.
use Rattle.std.proofs.Common.{◌≡◌, ◌≢◌, ℕ, ◌+◌, ◌-◌, ◌^◌, ◌<◌, ◌≤◌, refl, ap, ◌∙◌, arith}
use Rattle.std.specs.Prelude.{◌==◌, if◌then◌else◌}
use Rattle.std.proofs.lemmas.Bool.{lt-ltb, ne_eqb}
use Rattle.rv_spec.specs.Words.{word}
use Rattle.rv_spec.specs.Elf.{Image}
use Rattle.rv_spec.specs.Step.{register, start}
use Rattle.rv_spec.specs.Cells.{initial_value, value}
use Rattle.rv_elf.specs.Loaded.{loaded}
use Rattle.rv_rules.proofs.Lemmas.{initial-register}

pub in-memory : (i : Image) (c : ℕ) → c < 1073741824 → initial_value i c ≡ word (loaded i) c
unfolding value
in-memory i c lt = ap (λ b. if b then word (loaded i) c else (if c == 1073741856 then 0 else register (start i) (c - 1073741824))) (lt-ltb c 1073741824 lt)

pub in-stack-pointer : (i : Image) → initial_value i 1073741826 ≡ 0x7FFFF000
unfolding value
in-stack-pointer i = refl

pub elsewhere : (i : Image) (c : ℕ) → 1073741824 ≤ c → c ≢ 1073741826 → initial_value i c ≡ 0
elsewhere i c le other =
    let there : c ≡ 2 ^ 30 + (c - 2 ^ 30) = omega (arith, le) in
    ap (initial_value i) there ∙ initial-register i (c - 2 ^ 30) ∙ ap (λ b. if b then 0x7FFFF000 else 0) (ne_eqb (c - 2 ^ 30) 2 (λ e. absurd (other (omega (arith, e, le)))))
