-- A command as a plan: the files that it reads, in order, how their contents say it goes on, and the outcome with which it ends (this project's own).
use Rattle.std.specs.Prelude.{ℕ, List, [], ◌∷◌, length, Option, Some, None, nat_lt, if◌then◌else◌}
use Rattle.rv_base.specs.declared.limits.TheConstants.{ELF_LIMIT, INPUT_LIMIT}
use Rattle.rv_spec.specs.Elf.{first_fault}
use Rattle.rv_host.specs.Files.{Files, file, with_file}
use Rattle.rv_plan.specs.Lines.{elf_line}
use Rattle.rv_plan.specs.Faults.{status_of, line_of}
use Rattle.rv_plan.specs.declared.faults.Limited.{Limited}
use Rattle.rv_plan.specs.declared.faults.Limited.TheVariants as limited
use Rattle.rv_plan.specs.declared.faults.Fault.{Fault}
use Rattle.rv_plan.specs.declared.faults.Fault.TheVariants.{Limit}

-- a name and the bytes that are due to it
abbrev pub Due : Type 0
Due = List ℕ × List ℕ

-- A status, a text, and the files that are due, in the order of their writing.
pub record Outcome : Type 0 where
  pub status : ℕ
  pub text : List ℕ
  pub writes : List Due

-- a refusal writes no file
abbrev pub refuses : Fault → Outcome
refuses fault = record { status = status_of fault; text = line_of fault; writes = [] }

-- A plan of a command: it reads a file, whose contents say how it goes on, or it ends.
pub data Plan : Type 0 where
  read : (name : List ℕ) (next : List ℕ → Plan) → Plan
  answer : Outcome → Plan

-- ---- refusals

-- a file that is refused above its limit
abbrev pub read_within : List ℕ → ℕ → Limited → (List ℕ → Plan) → Plan
read_within name limit what next = read name (λ bytes. if nat_lt limit (length bytes) then answer (refuses (Limit what)) else next bytes)

-- an ELF file that is refused for a fault
abbrev pub unless_faulty : Option ℕ → Plan → Plan
unless_faulty None plan = plan
unless_faulty (Some number) plan = answer (record { status = 3; text = elf_line number; writes = [] })

-- a program and its input are read, and the program is judged
abbrev pub read_program : List ℕ → List ℕ → (List ℕ → List ℕ → Plan) → Plan
read_program elf input next =
    read_within elf ELF_LIMIT limited.Elf (λ program.
    read_within input INPUT_LIMIT limited.Input (λ given. unless_faulty (first_fault program) (next program given)))

-- ---- over files of which an absent one counts as empty

-- the outcome of a plan
abbrev pub outcome_over : Files → Plan → Outcome
outcome_over files (read name next) = outcome_over files (next (file files name))
outcome_over files (answer o) = o

-- the files with all that is due
abbrev pub with_due : Files → List Due → Files
with_due files [] = files
with_due files (due ∷ more) = with_due (with_file files due.0 due.1) more
