-- The second clause of the agreement, for old values of which only those in the slots of the expected accesses are known.
use Rattle.std.specs.Prelude.{◌≡◌, ℕ, List, map}
use Rattle.std.specs.List.{AllByRecursion}
use Rattle.rv_base.specs.declared.record.Seen.{Seen}
use Rattle.rv_base.specs.declared.record.Touch.{Touch}
use Rattle.rv_spec.specs.Step.{State, step}
use Rattle.rv_spec.specs.Cells.{value}
use Rattle.rv_spec.specs.Visits.{visits}
use Rattle.rv_rules.specs.Expected.{expected}
use Rattle.rv_rules.specs.Agreement.{IsState, GoesAs, touch_of}
use Rattle.rv_isa.specs.Sees.{seen_in}

-- the old values in the slots of these accesses are those that the state holds
abbrev pub SeesTouches : Seen → State → List Touch → Type 0
SeesTouches v s ts = AllByRecursion (λ t. seen_in v t.slot ≡ value s t.cell) ts

-- Old values that are the state's in the slots of the expected accesses, which they themselves choose, make the expected step the machine's step: its slots, cells and new values are the machine's, and it goes on, or ends, as the machine does.
abbrev pub SeenStepsFollow : Type 0
SeenStepsFollow =
    (input : List ℕ) (s : State) (v : Seen) → IsState s → let e = expected s.version s.pc v input s.position in
    SeesTouches v s e.touches → (e.touches ≡ map touch_of (visits input s)) × GoesAs e s (step input s)
