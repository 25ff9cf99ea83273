-- The assembling of a source, by what its calls answer.
use Rattle.std.specs.Prelude.{◌≡◌, ℕ, ◌++◌, List, [], ◌∷◌, length, Result, Ok, Err, IfOk, ⊤}
use Rattle.rv_asm.specs.Assembly.{assembly, symbols_of}
use Rattle.rv_asm.specs.Listing.{listing}
use Rattle.rv_asm.specs.declared.faults.AsmFault.TheVariants.{At}
use Rattle.rv_host.specs.Views.{ShelfView}
use Rattle.rv_plan.specs.Plan.{answer}
use Rattle.rv_plan.specs.Endings.{IsWritten}
use Rattle.rv_plan.specs.FileCalls.{PerformsBehind}
use Rattle.rv_plan.specs.declared.faults.Fault.{Fault}
use Rattle.rv_plan.specs.declared.faults.Fault.TheVariants.{Memory, Assembly}
use Rattle.rv_plan.specs.declared.told.Told.{Told}
use Rattle.rv_commands.specs.CommandLine.{AsmWords}
use Rattle.rv_commands.specs.Headline.{IsExecutableOf}
use Rattle.rv_commands.specs.Lines.{assembled_line}
use Rattle.rv_commands.specs.Outcome.{assembled}
use Rattle.rv_commands.specs.declared.asm.Executable.{Executable}

-- the executable of a source, and the text that tells of it
pub record IsToldExecutable (source file text : List ℕ) : Type 0 where
  pub is : IsExecutableOf source file
  pub told : text ≡ listing (symbols_of source) is.words ++ assembled_line (length is.words) (length file)

-- a source is assembled, or has a fault
abbrev pub Assembles : List ℕ → Result Executable Fault → Type 0
Assembles source (Ok made) = IsToldExecutable source made.file made.text
Assembles source (Err (Assembly n kind)) = assembly source ≡ Err (At n kind)
Assembles source (Err Memory) = ⊤
Assembles source (Err _) = ⊥

-- a source that was read is assembled as the plan says, and success says that its executable is written
pub record AssemblesSource (w : AsmWords) (source : List ℕ) (before after : ShelfView) (result : Result Told Fault) : Type 0 where
  pub performs : PerformsBehind (answer (assembled w (symbols_of source) (assembly source))) before after result
  pub written : IfOk result (λ told. told.status ≡ 0 → (file : List ℕ) × IsExecutableOf source file × IsWritten ((w.target, file) ∷ []) before after)
