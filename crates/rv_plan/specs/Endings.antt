-- How a command ends, and what it leaves on its shelf.
use Rattle.std.specs.Prelude.{◌≡◌, ◌≢◌, ◌⊎◌, false, ℕ, List, ◌∷◌, ◌++◌, take, Option, Some, IfSome}
use Rattle.std.specs.Option.{option_map}
use Rattle.rv_host.specs.Counts.{Rose}
use Rattle.rv_host.specs.Files.{Files, file, with_file}
use Rattle.rv_host.specs.Views.{ShelfView}
use Rattle.rv_plan.specs.Faults.{has_number, line_of}
use Rattle.rv_plan.specs.Plan.{Due, Outcome, Plan, read, answer, refuses, with_due}
use Rattle.rv_plan.specs.declared.faults.Fault.{Fault}
use Rattle.rv_plan.specs.declared.faults.Fault.TheVariants.{Read, Write, Memory}

-- ---- what was read

-- the contents of a file: the told ones, where the files are told
abbrev pub IsContents : Option Files → List ℕ → List ℕ → Type 0
IsContents files name contents = IfSome files (λ told. contents ≡ file told name)

-- There are contents, one for each file that the plan reads, with which it ends with this outcome.
abbrev pub Reaches : Option Files → Plan → Outcome → Type 0
Reaches files (read name next) o = (contents : List ℕ) × IsContents files name contents × Reaches files (next contents) o
Reaches files (answer outcome) o = o ≡ outcome

-- A read of the plan failed: the count of its name rose, and no refusal stands before it.
abbrev pub ReadFails : ShelfView → ShelfView → Plan → Type 0
ReadFails before after (read name next) =
    Rose (before.read_faults name) (after.read_faults name)
    ⊎ ((contents : List ℕ) × IsContents before.files name contents × ReadFails before after (next contents))
ReadFails before after (answer outcome) = ⊥

-- ---- what was written

-- no file has changed, and no writing failed
pub record Leaves (before after : ShelfView) : Type 0 where
  pub files : after.files ≡ before.files
  pub writes : (name : List ℕ) → after.write_faults name ≡ before.write_faults name

-- all that is due is written, and no writing failed
pub record IsWritten (due : List Due) (before after : ShelfView) : Type 0 where
  pub files : after.files ≡ option_map (λ told. with_due told due) before.files
  pub writes : (name : List ℕ) → after.write_faults name ≡ before.write_faults name

-- the file at a name is as it was, or holds a prefix of its due bytes
abbrev pub IsTorn : Files → List ℕ → List ℕ → Option Files → Type 0
IsTorn files name bytes after = (after ≡ Some files) ⊎ ((taken : ℕ) × (after ≡ Some (with_file files name (take taken bytes))))

-- Writing failed at one name, whose count rose: those before it hold their due bytes, it is torn, and all others are as they were.
pub record WriteFails (due : List Due) (before after : ShelfView) : Type 0 where
  pub first : List Due
  pub name : List ℕ
  pub bytes : List ℕ
  pub last : List Due
  pub order : due ≡ first ++ (name, bytes) ∷ last
  pub rose : Rose (before.write_faults name) (after.write_faults name)
  pub torn : (told : Files) → before.files ≡ Some told → IsTorn (with_due told first) name bytes after.files

-- ---- the ends of a plan

-- A plan takes memory, unless it is at once a refusal whose line has no number.
abbrev pub TakesMemory : Plan → Type 0
TakesMemory (read name next) = Unit {0}
TakesMemory (answer outcome) = (fault : Fault) → has_number fault ≡ false → outcome ≢ refuses fault

-- How a plan ends on a shelf, with the status and the text that are to be told.
pub data Ends (plan : Plan) (before after : ShelfView) (status : ℕ) (text : List ℕ) : Type 0 where
  -- with its outcome, of which all is written
  done : (o : Outcome) → Reaches before.files plan o → status ≡ o.status → text ≡ o.text → IsWritten o.writes before after → Ends plan before after status text
  -- for a read that failed
  unread : status ≡ 5 → text ≡ line_of Read → ReadFails before after plan → Leaves before after → Ends plan before after status text
  -- for a write that failed, which the outcome was due
  unwritten : (o : Outcome) → Reaches before.files plan o → status ≡ 6 → text ≡ line_of Write → WriteFails o.writes before after → Ends plan before after status text
  -- for want of memory, before any file has changed
  no_memory : TakesMemory plan → status ≡ 7 → text ≡ line_of Memory → Leaves before after → Ends plan before after status text
