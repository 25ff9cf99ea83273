-- What reading and writing whole files leaves on a shelf, by what it answers.
use Rattle.std.specs.Prelude.{◌≡◌, ℕ, ◌<◌, ◌≤◌, List, [], ◌∷◌, ◌++◌, length, take, Some, Result, Ok, Err}
use Rattle.std.specs.List.{flat_map}
use Rattle.rv_base.specs.declared.limits.TheConstants.{ELF_LIMIT, INPUT_LIMIT}
use Rattle.rv_host.specs.Counts.{Rose}
use Rattle.rv_host.specs.Files.{Files, file}
use Rattle.rv_host.specs.Views.{ShelfView}
use Rattle.rv_plan.specs.Plan.{Due, Outcome, Plan, read_program, refuses}
use Rattle.rv_plan.specs.Endings.{IsContents, IsTorn, IsWritten, Leaves, ReadFails, Reaches, TakesMemory, WriteFails}
use Rattle.rv_plan.specs.declared.faults.Fault.{Fault}
use Rattle.rv_plan.specs.declared.faults.Limited.{Limited}
use Rattle.rv_plan.specs.declared.loading.Loaded.{Loaded}
use Rattle.rv_plan.specs.declared.faults.Fault.TheVariants.{Read, Write, Memory, Limit}
use Rattle.rv_plan.specs.declared.told.Told.{Told}
use Rattle.rv_plan.specs.declared.writing.DueFile.{DueFile}

-- files and counts are as they were
pub record IsUnchanged (before after : ShelfView) : Type 0 where
  pub files : after.files ≡ before.files
  pub reads : (name : List ℕ) → after.read_faults name ≡ before.read_faults name
  pub writes : (name : List ℕ) → after.write_faults name ≡ before.write_faults name

-- Bytes of a file behind its first ones are read, until there are so many or the file ends.
abbrev pub ReadsOn : List ℕ → ℕ → List ℕ → List ℕ → ShelfView → ShelfView → Result Unit Fault → Type 0
ReadsOn name most old new before after (Ok _) =
    IsUnchanged before after × (length new ≤ most) × ((more : List ℕ) × (new ≡ old ++ more))
    × ((told : Files) → before.files ≡ Some told → old ≡ take (length old) (file told name) → new ≡ take most (file told name))
ReadsOn name most old new before after (Err Read) = Leaves before after × Rose (before.read_faults name) (after.read_faults name)
ReadsOn name most old new before after (Err Memory) = Leaves before after
ReadsOn name most old new before after (Err _) = ⊥

-- A file is read whole, where it is within a limit.
abbrev pub ReadsWithin : List ℕ → ℕ → Limited → ShelfView → ShelfView → Result (List ℕ) Fault → Type 0
ReadsWithin name limit what before after (Ok bytes) = IsUnchanged before after × (length bytes ≤ limit) × IsContents before.files name bytes
ReadsWithin name limit what before after (Err Read) = Leaves before after × Rose (before.read_faults name) (after.read_faults name)
ReadsWithin name limit what before after (Err Memory) = Leaves before after
ReadsWithin name limit what before after (Err (Limit over)) =
    IsUnchanged before after × (over ≡ what) × ((contents : List ℕ) × (limit < length contents) × IsContents before.files name contents)
ReadsWithin name limit what before after (Err _) = ⊥

-- A plan stops for a fault.
abbrev pub Stops : Plan → ShelfView → ShelfView → Fault → Type 0
Stops plan before after Read = Leaves before after × ReadFails before after plan
Stops plan before after Memory = Leaves before after × TakesMemory plan
Stops plan before after Write = (o : Outcome) × Reaches before.files plan o × WriteFails o.writes before after
Stops plan before after fault = Leaves before after × Reaches before.files plan (refuses fault)

-- A program and its input are read whole, or a plan that reads them stops, however it goes on.
abbrev pub Loads : List ℕ → List ℕ → ShelfView → ShelfView → Result Loaded Fault → Type 0
Loads elf input before after (Ok loaded) =
    IsUnchanged before after × (length loaded.elf ≤ ELF_LIMIT) × (length loaded.input ≤ INPUT_LIMIT)
    × IsContents before.files elf loaded.elf × IsContents before.files input loaded.input
Loads elf input before after (Err fault) = (next : List ℕ → List ℕ → Plan) → Stops (read_program elf input next) before after fault

-- A file is made of some bytes, or is torn.
abbrev pub WritesFile : List ℕ → List ℕ → ShelfView → ShelfView → Result Unit Fault → Type 0
WritesFile name bytes before after (Ok _) = IsWritten ((name, bytes) ∷ []) before after
WritesFile name bytes before after (Err fault) =
    (fault ≡ Write) × Rose (before.write_faults name) (after.write_faults name)
    × ((told : Files) → before.files ≡ Some told → IsTorn told name bytes after.files)

-- the files of a list that are due, whose bytes come in parts
abbrev pub due_of : DueFile → Due
due_of file = (file.name.now, flat_map (λ part. part.now) file.parts.now)

-- All files that are due are written, or writing failed at one.
abbrev pub Writes : List Due → ShelfView → ShelfView → Result Unit Fault → Type 0
Writes writes before after (Ok _) = IsWritten writes before after
Writes writes before after (Err fault) = (fault ≡ Write) × WriteFails writes before after

-- A command ends as its plan says.
abbrev pub Performs : Plan → ShelfView → ShelfView → Result Told Fault → Type 0
Performs plan before after (Ok told) =
    (o : Outcome) × Reaches before.files plan o × (told.status ≡ o.status) × (told.text ≡ o.text) × IsWritten o.writes before after
Performs plan before after (Err fault) = Stops plan before after fault

-- The same of what a command does behind a file that it has read, where want of memory may always come.
abbrev pub StopsBehind : Plan → ShelfView → ShelfView → Fault → Type 0
StopsBehind plan before after Memory = Leaves before after
StopsBehind plan before after fault = Stops plan before after fault

abbrev pub PerformsBehind : Plan → ShelfView → ShelfView → Result Told Fault → Type 0
PerformsBehind plan before after (Ok told) = Performs plan before after (Ok told)
PerformsBehind plan before after (Err fault) = StopsBehind plan before after fault
