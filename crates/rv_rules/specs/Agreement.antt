-- The expected step of a row is the machine's own step, where the row's old values are those that the machine's state holds.
use Rattle.std.specs.Prelude.{◌≡◌, ℕ, ◌+◌, ◌%◌, ◌^◌, ◌<◌, ◌≤◌, List, [], ◌++◌, length, map, Some, None}
use Rattle.std.specs.List.{AllByRecursion}
use Rattle.rv_base.specs.declared.record.Touch.{Touch}
use Rattle.rv_base.specs.declared.record.Tuple.{Tuple}
use Rattle.rv_spec.specs.Words.{byte, AreBytes}
use Rattle.rv_spec.specs.Elf.{Image}
use Rattle.rv_spec.specs.Run.{run}
use Rattle.rv_spec.specs.Cells.{value, initial_value, time_of}
use Rattle.rv_rules.specs.Chain.{value_before}
use Rattle.rv_spec.specs.Step.{State, Transition, Next, Ends, step}
use Rattle.rv_spec.specs.Visits.{Visit, visits}
use Rattle.rv_spec.specs.Trace.{access, history}
use Rattle.rv_rules.specs.Expected.{Expected, expected}
use Rattle.rv_rules.specs.RowRules.{seen}

-- the ranges of a state that some run reaches
pub record IsState (s : State) : Type 0 where
  pub pc : s.pc < 2 ^ 32
  pub aligned : s.pc % 4 ≡ 0
  pub count : length s.registers ≡ 31
  pub registers : AllByRecursion (λ x. x < 2 ^ 32) s.registers
  pub reservation : s.reservation < 2 ^ 32
  pub bytes : (a : ℕ) → byte s.memory a < 2 ^ 8

-- the expected step goes on as the machine does, or ends as it does and stays
abbrev pub GoesAs : Expected → State → Transition → Type 0
GoesAs e s (Next t) = (e.end ≡ None) × (e.next ≡ t.pc) × (s.position + e.took ≡ t.position) × (s.output ++ e.put ≡ t.output)
GoesAs e s (Ends f) = (e.end ≡ Some f) × (e.next ≡ s.pc) × (e.took ≡ 0) × (e.put ≡ [])

abbrev pub touch_of : Visit → Touch
touch_of v = record { slot = v.slot; cell = v.cell; new = v.new }

-- The expected step, by the old values of the accesses of the step (as its row has them), makes these accesses and goes as the step does.
pub record Agrees (input : List ℕ) (s : State) (before : List Tuple) (k : ℕ) : Type 0 where
  pub accesses : (expected s.version s.pc (seen (map (access before k) (visits input s))) input s.position).touches ≡ map touch_of (visits input s)
  pub goes : GoesAs (expected s.version s.pc (seen (map (access before k) (visits input s))) input s.position) s (step input s)

-- the law, of each state of a run
abbrev pub StepsAgree : Type 0
StepsAgree = (input : List ℕ) (s : State) (before : List Tuple) (k : ℕ) → IsState s → s.position ≤ length input → Agrees input s before k

-- what a state of a run holds in a cell is what the last use left there, or the initial value
abbrev pub HoldsLastUses : Image → List ℕ → ℕ → Type 0
HoldsLastUses i input n =
    (c : ℕ) → value (run i input n) c ≡ value_before (initial_value i) (history i input n) c (time_of n 0)

-- what a file without a fault loads
pub record IsProgram (i : Image) : Type 0 where
  pub entry : i.entry < 2 ^ 32
  pub aligned : i.entry % 4 ≡ 0
  pub bytes : AllByRecursion (λ b. AreBytes b.bytes) i.blocks

-- the law of the ranges: a run on bytes goes from state to state, and reads no byte past the input's end
abbrev pub RunsAreStates : Image → List ℕ → Type 0
RunsAreStates i input = IsProgram i → AreBytes input → (n : ℕ) → IsState (run i input n) × ((run i input n).position ≤ length input)
