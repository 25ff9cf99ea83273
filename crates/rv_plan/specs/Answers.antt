-- What is promised of a call that carries a plan out and tells how it ended: its status, what it prints, and the files.
use Rattle.std.specs.Prelude.{◌≡◌, ◌≢◌, ◌⊎◌, ℕ, IsTrue, List, [], ◌++◌, Option, Some}
use Rattle.std.specs.Option.{option_map}
use Rattle.std.specs.Int.{IsInRange}
use Rattle.rv_host.specs.Counts.{Rose}
use Rattle.rv_host.specs.Files.{Files}
use Rattle.rv_host.specs.Transfers.{PutsPrefix}
use Rattle.rv_host.specs.Views.{ShelfView, SinkView}
use Rattle.rv_plan.specs.Plan.{Outcome, Plan, outcome_over, with_due}
use Rattle.rv_plan.specs.Endings.{Ends, Reaches}
use Rattle.rv_plan.specs.Faults.{status_of, line_of, has_number}
use Rattle.rv_plan.specs.declared.faults.Fault.{Fault}
use Rattle.rv_plan.specs.declared.faults.Fault.TheVariants.{Memory}

-- A text is printed with its status, or a prefix of it with status 6 where the sink failed.
pub data Prints (before after : SinkView) (status : ℕ) (text : List ℕ) (result : ℕ) : Type 0 where
  whole : result ≡ status → after.written ≡ option_map (λ told. told ++ text) before.written → Prints before after status text result
  torn : result ≡ 6 → Rose before.faults after.faults → PutsPrefix before.written after.written text → Prints before after status text result

-- A fault's line is printed so. Where it has a number there may be no memory for it.
abbrev pub PrintsFault : SinkView → SinkView → Fault → ℕ → Type 0
PrintsFault before after fault result =
    Prints before after (status_of fault) (line_of fault) result ⊎ (IsTrue (has_number fault) × Prints before after 7 (line_of Memory) result)

-- Where the files are told: status, files and text are those of the outcome over them.
pub record IsOutcomeOf (plan : Plan) (files : Files) (shelf' : ShelfView) (sink sink' : SinkView) (result : ℕ) : Type 0 where
  pub status : result ≡ (outcome_over files plan).status
  pub files' : shelf'.files ≡ Some (with_due files (outcome_over files plan).writes)
  pub printed : sink'.written ≡ option_map (λ told. told ++ (outcome_over files plan).text) sink.written

-- the statuses of the table
abbrev pub IsStatus : ℕ → Type 0
IsStatus n = IsInRange 0 8 n ⊎ IsInRange 10 13 n

-- An outcome has a status of the table, and writes nothing unless it is a success.
pub record IsListed (o : Outcome) : Type 0 where
  pub status : IsStatus o.status
  pub writes : o.status ≢ 0 → o.writes ≡ []

-- each outcome that a plan may reach
abbrev pub AllListed : Plan → Type 0
AllListed p = (files : Option Files) (o : Outcome) → Reaches files p o → IsListed o

-- The promise: the plan ends, and what it is to tell is printed.
pub record Answers (plan : Plan) (shelf shelf' : ShelfView) (sink sink' : SinkView) (result : ℕ) : Type 0 where
  pub status : ℕ
  pub text : List ℕ
  pub ended : Ends plan shelf shelf' status text
  pub printed : Prints sink sink' status text result
  pub listed : IsStatus result
  -- where the files are told, only failures and want of memory keep from the outcome over them
  pub told : (files : Files) → shelf.files ≡ Some files → result ≢ 5 → result ≢ 6 → result ≢ 7 → IsOutcomeOf plan files shelf' sink sink' result
  -- only success and a failed write may change a file
  pub kept : result ≢ 0 → result ≢ 6 → shelf'.files ≡ shelf.files
