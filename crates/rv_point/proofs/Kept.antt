-- A step leaves each cell as it was that it doesn't write.
use Rattle.std.proofs.Common.{◌≡◌, ℕ, List, refl}
use Rattle.rv_spec.specs.Step.{State, Transition, Next, Ends, step}
use Rattle.rv_spec.specs.Run.{state_after, next_state}
use Rattle.rv_spec.specs.Cells.{value}
use Rattle.rv_spec.specs.Visits.{step_uses}
pub use Rattle.rv_isa.proofs.Lemmas.{Spares}
use Rattle.rv_isa.proofs.Lemmas.{Keeps, step-keeps}

after-kept : (c : ℕ) (s : State) (turn : Transition) → Keeps c s turn → value (state_after s turn) c ≡ value s c
after-kept c s (Next t) h = h
after-kept c s (Ends e) h = refl

pub next-keeps : (input : List ℕ) (s : State) (c : ℕ) → Spares c (step_uses input s) → value (next_state input s) c ≡ value s c
next-keeps input s c spared = after-kept c s (step input s) (step-keeps input s c spared)
