-- What a look at a step tells of it.
use Rattle.std.specs.Prelude.{◌≡◌, ℕ, ◌+◌, ◌≤◌, List, ◌++◌, map, take}
use Rattle.std.specs.Int.{w32, to_le_bytes}
use Rattle.rv_spec.specs.Step.{State, step}
use Rattle.rv_spec.specs.Run.{end_of, next_state}
use Rattle.rv_spec.specs.Visits.{visits}
use Rattle.rv_rules.specs.Agreement.{touch_of}
use Rattle.rv_isa.specs.declared.look.Look.{Look}

-- the touches of the step from a state, how it ends the run, if it does, and where it goes
pub record TellsStep (input : List ℕ) (s : State) (l : Look) : Type 0 where
  pub touches : l.touches.list.items ≡ map touch_of (visits input s)
  pub ends : l.outcome.end ≡ end_of (step input s)
  pub next : l.outcome.next ≡ (next_state input s).pc
  pub took : s.position + l.outcome.took ≡ (next_state input s).position
  pub most : l.outcome.put ≤ 4
  pub output : s.output ++ take l.outcome.put (to_le_bytes w32 l.outcome.word) ≡ (next_state input s).output
