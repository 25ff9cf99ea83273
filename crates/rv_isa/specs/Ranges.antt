-- The ranges of what the steps of a run use, take, put and end with.
use Rattle.std.specs.Prelude.{◌≡◌, ◌⊎◌, ℕ, ◌+◌, ◌*◌, ◌<◌, ◌≤◌, ◌^◌, List, [], ◌∷◌, length, Some, IsTrue}
use Rattle.std.specs.List.{AllByRecursion}
use Rattle.rv_base.specs.declared.cells.TheConstants.{RESERVATION_CELL, FETCH_SLOT, RESERVATION_SLOT}
use Rattle.rv_base.specs.declared.machine.TheConstants.{EXIT, MISALIGNED_STORE}
use Rattle.rv_base.specs.declared.record.End.{End}
use Rattle.rv_spec.specs.Words.{AreBytes}
use Rattle.rv_spec.specs.Elf.{Image}
use Rattle.rv_spec.specs.Run.{run, end_at}
use Rattle.rv_spec.specs.Cells.{is_cell, value}
use Rattle.rv_spec.specs.Visits.{Use, step_uses}
use Rattle.rv_rules.specs.Agreement.{IsProgram}

-- the slots rise from lo on, and all are below hi
abbrev pub Rises : ℕ → ℕ → List Use → Type 0
Rises lo hi [] = lo ≤ hi
Rises lo hi (u ∷ us) = (lo ≤ u.slot) × Rises (u.slot + 1) hi us

-- the cells are some of the version, and none is above the reservation
abbrev pub AreCells : ℕ → List Use → Type 0
AreCells version us = AllByRecursion (λ u. IsTrue (is_cell version u.cell) × (u.cell < RESERVATION_CELL + 1)) us

-- one of the kinds; a code, which is a word, in an exit alone
pub record EndFits (e : End) : Type 0 where
  pub kind : e.kind ≤ MISALIGNED_STORE
  pub code : e.code < 2 ^ 32
  pub code_of_exit : (e.kind ≡ EXIT) ⊎ (e.code ≡ 0)

-- the state after n steps of a run, and its step
pub record StepFits (i : Image) (input : List ℕ) (n : ℕ) : Type 0 where
  pub version : (run i input n).version ≡ i.version
  pub taken : (run i input n).position ≤ 4 * n
  pub put : AreBytes (run i input n).output
  pub put_most : length (run i input n).output ≤ 4 * n
  pub values : (c : ℕ) → value (run i input n) c < 2 ^ 32
  pub slots : Rises FETCH_SLOT (RESERVATION_SLOT + 1) (step_uses input (run i input n))
  pub cells : AreCells i.version (step_uses input (run i input n))
  pub ends : (e : End) → end_at i input n ≡ Some e → EndFits e

-- the law of the ranges of a run
abbrev pub RunsFit : Image → List ℕ → Type 0
RunsFit i input = IsProgram i → AreBytes input → (n : ℕ) → StepFits i input n
