-- What a hart keeps between steps, and the states that it stands for.
use Rattle.std.specs.Prelude.{◌≡◌, ◌<◌, ◌≤◌, ℕ, List, length, IsTrue}
use Rattle.std.specs.List.{AllByRecursion}
use Rattle.rv_base.specs.declared.record.Tuple.{Tuple}
use Rattle.rv_spec.specs.Words.{AreBytes}
use Rattle.rv_spec.specs.Step.{State}
use Rattle.rv_spec.specs.Cells.{is_cell, value, time_of}
use Rattle.rv_spec.specs.Trace.{last_use}
use Rattle.rv_rules.specs.Agreement.{IsState}
use Rattle.rv_mem.specs.Contents.{Contents, value_at, time_at}

-- The cells with their times and the image below them, the input and how much of it was read, and the address of the next instruction.
pub record HartState : Type 0 where
  pub cells : Contents
  pub input : List ℕ
  pub pc : ℕ
  pub position : ℕ

-- the cells hold what a state holds
abbrev pub CellsRepresent : Contents → State → Type 0
CellsRepresent m s = (c : ℕ) → IsTrue (is_cell 2 c) → value_at m c ≡ value s c

-- The hart stands for a state: it keeps what the state has but for the output, and in each cell what the state holds there.
pub record StandsFor (h : HartState) (s : State) : Type 0 where
  pub version : h.cells.image.version ≡ s.version
  pub pc : h.pc ≡ s.pc
  pub position : h.position ≡ s.position
  pub cells : CellsRepresent h.cells s
  pub ranges : IsState s
  pub within : s.position ≤ length h.input

-- The time of each cell is that of its last use before step number k, where all that was left in cells before that step is known.
pub record IsTimed (h : HartState) (before : List Tuple) (k : ℕ) : Type 0 where
  pub times : (c : ℕ) → IsTrue (is_cell 2 c) → time_at h.cells c ≡ last_use before c (time_of k 0)
  pub earlier : AllByRecursion (λ t. t.time < time_of k 0) before

-- what is true of every hart: its input is bytes, and it stands for some state
pub record StandsForSome (h : HartState) : Type 0 where
  pub bytes : AreBytes h.input
  pub stands : ∥ ((s : State) × StandsFor h s) ∥₁
