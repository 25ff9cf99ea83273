-- What judging a record file on a shelf gives, by what it answers.
use Rattle.std.specs.Prelude.{◌≡◌, ℕ, List, ◌++◌, length, take, Vec, Some, Result, Ok, Err}
use Rattle.std.specs.declared.alloc.Global.{Global}
use Rattle.rv_base.specs.declared.record.Verdict.{Verdict}
use Rattle.rv_spec.specs.Digest.{sha_lanes}
use Rattle.rv_rules.specs.Verdict.{verdict}
use Rattle.rv_base.specs.declared.record.Refusal.{Refusal}
use Rattle.rv_spec.specs.Words.{AreBytes}
use Rattle.rv_judge.specs.Held.{Held, IsWholeFront, comes}
use Rattle.rv_judge.specs.Conclusions.{IsSound}
use Rattle.rv_host.specs.Counts.{Rose}
use Rattle.rv_host.specs.Files.{Files, file}
use Rattle.rv_host.specs.Views.{ShelfView}
use Rattle.rv_plan.specs.Endings.{IsContents, Leaves}
use Rattle.rv_plan.specs.FileCalls.{IsUnchanged}
use Rattle.rv_plan.specs.Plan.{Outcome}
use Rattle.rv_plan.specs.declared.told.Told.{Told}
use Rattle.rv_settle.specs.declared.settling.Settled.{Settled}
use Rattle.rv_settle.specs.declared.settling.Settled.TheVariants.{Run, Collision, Refused}
use Rattle.rv_commands.specs.Lines.{collision_line, refused_line, settled_line}
use Rattle.rv_commands.specs.Outcome.{denies, tells}
use Rattle.rv_plan.specs.declared.faults.Fault.{Fault}
use Rattle.rv_plan.specs.declared.faults.Fault.TheVariants.{Read, Memory}

-- where the files are told, these are the first bytes of one
abbrev pub AreFirst : ShelfView → List ℕ → List ℕ → Type 0
AreFirst before name bytes = (told : Files) → before.files ≡ Some told → bytes ≡ take (length bytes) (file told name)

-- header and output of a file, or all of a file that ends before them
abbrev pub ReadsFront : List ℕ → ShelfView → ShelfView → Result (Vec ℕ Global) Fault → Type 0
ReadsFront name before after (Ok front) =
    IsUnchanged before after × AreFirst before name front.items
    × ((¬ IsWholeFront front.items) → (told : Files) → before.files ≡ Some told → front.items ≡ file told name)
ReadsFront name before after (Err Read) = Leaves before after × Rose (before.read_faults name) (after.read_faults name)
ReadsFront name before after (Err Memory) = Leaves before after
ReadsFront name before after (Err _) = ⊥

-- The verdict on the contents of a file, which are the told ones where the files are told; and what it concludes.
abbrev pub Judges : List ℕ → List ℕ → List ℕ → ShelfView → ShelfView → Result Verdict Fault → Type 0
Judges name elf input before after (Ok answer) =
    IsUnchanged before after × ((contents : List ℕ) × IsContents before.files name contents × (answer ≡ verdict sha_lanes elf input contents) × IsSound sha_lanes elf input contents answer)
Judges name elf input before after (Err Read) = Leaves before after × Rose (before.read_faults name) (after.read_faults name)
Judges name elf input before after (Err Memory) = Leaves before after
Judges name elf input before after (Err _) = ⊥

-- How far a record file was judged: these bytes behind its front were fed, and what comes of the judge is the verdict.
pub record IsFed (before : ShelfView) (name elf input front : List ℕ) (at : ℕ) (judge : Result Held Refusal) (fed : List ℕ) : Type 0 where
  pub bytes : AreBytes fed
  pub place : at ≡ length (front ++ fed)
  pub verdict_is : (rest : List ℕ) → comes sha_lanes judge rest ≡ verdict sha_lanes elf input ((front ++ fed) ++ rest)
  pub first : AreFirst before name (front ++ fed)

-- ---- what is told

-- a text is told with its status, unless there is no memory for it
abbrev pub TellsOutcome : Outcome → Result Told Fault → Type 0
TellsOutcome o (Ok told) = (told.status ≡ o.status) × (told.text ≡ o.text)
TellsOutcome o (Err fault) = fault ≡ Memory

-- what settling tells
abbrev pub settled_outcome : Settled → Outcome
settled_outcome (Run steps) = tells (settled_line steps)
settled_outcome (Collision d) = denies (collision_line d.tuple d.reads d.writes)
settled_outcome (Refused r) = denies (refused_line r)
