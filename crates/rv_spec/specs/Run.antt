-- Runs of the machine (this project's own).
use Rattle.std.specs.Prelude.{◌≡◌, ℕ, zero, suc, ◌-◌, ◌<◌, List, Option, Some, None}
use Rattle.rv_base.specs.declared.record.End.{End}
use Rattle.rv_spec.specs.Elf.{Image}
use Rattle.rv_spec.specs.Step.{State, Transition, Next, Ends, start, step}

-- the state that a transition leads to, where one that ends the run leaves the state as it was
abbrev pub state_after : State → Transition → State
state_after s (Next t) = t
state_after s (Ends e) = s

abbrev pub end_of : Transition → Option End
end_of (Next t) = None
end_of (Ends e) = Some e

-- the state after a step
abbrev pub next_state : List ℕ → State → State
next_state input s = state_after s (step input s)

-- the state after n steps; a run that has ended stays
unfoldable pub run : Image → List ℕ → ℕ → State
run i input zero = start i
run i input (suc n) = next_state input (run i input n)

-- how step number n ends the run, counted from 0, if it does
abbrev pub end_at : Image → List ℕ → ℕ → Option End
end_at i input n = end_of (step input (run i input n))

-- none of the first n steps ends the run
abbrev pub GoesOn : Image → List ℕ → ℕ → Type 0
GoesOn i input n = (k : ℕ) → k < n → end_at i input k ≡ None

-- The run ends in exactly n steps, the ending one counted, and this is its end.
pub record EndsIn (i : Image) (input : List ℕ) (n : ℕ) (e : End) : Type 0 where
  pub some : 0 < n
  pub before : GoesOn i input (n - 1)
  pub last : end_at i input (n - 1) ≡ Some e
