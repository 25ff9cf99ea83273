-- What success of a command says of the files, in the words of the book of what has to be believed. The contents are those that the command read: where the files are told, the told ones.
use Rattle.std.specs.Prelude.{◌≡◌, ◌⊎◌, ℕ, ◌<◌, ◌≤◌, List, [], ◌∷◌, length, Option, Some, None, Ok, ⊤, ◌+◌, ◌++◌, drop}
use Rattle.std.specs.Int.{div_ceil}
use Rattle.rv_base.specs.declared.limits.TheConstants.{RECORD_LIMIT}
use Rattle.rv_base.specs.declared.record.End.{End}
use Rattle.rv_base.specs.declared.record.Verdict.TheVariants.{Accept}
use Rattle.rv_spec.specs.Words.{AreBytes}
use Rattle.rv_spec.specs.Digest.{sha_lanes}
use Rattle.rv_spec.specs.Elf.{first_fault, image}
use Rattle.rv_spec.specs.Grammar.{Spells}
use Rattle.rv_spec.specs.Record.{Parts, record_file}
use Rattle.rv_spec.specs.Run.{run as state_of}
use Rattle.rv_spec.specs.Conclusion.{HasRecord, IsRecord, IsCollision}
use Rattle.rv_rules.specs.Verdict.{judge, parse, verdict}
use Rattle.rv_asm.specs.Assembly.{assembly}
use Rattle.rv_asm.specs.Executable.{executable}
use Rattle.rv_asm.specs.Laws.{HoldsStatements, statements_of}
use Rattle.rv_host.specs.Files.{Files}
use Rattle.rv_host.specs.Views.{ShelfView}
use Rattle.rv_parts.specs.declared.heads.TheConstants.{PART_HEAD_BYTES}
use Rattle.rv_parts.specs.Cutting.{bodies_of, front_of, whole}
use Rattle.rv_plan.specs.Endings.{IsContents, IsWritten}
use Rattle.rv_query.specs.OfRun.{cell_of_run}
use Rattle.rv_query.specs.Questions.{image_of, snapshot}
use Rattle.rv_trial.specs.Trials.{trial as trial_told, Accepted as IsAccepted}
use Rattle.rv_trial.specs.declared.summary.Trial.{Trial}
use Rattle.rv_upgrade.specs.Upgrade.{blocked, upgraded}
use Rattle.rv_upgrade.specs.Laws.{IsAcceptedToo}
use Rattle.rv_commands.specs.CommandLine.{MakeWords, CheckWords, SettleWords, TrialWords, StateWords, CellWords, CommandWords, make, pipe, check, settle, run, explain, trial, state, cell, SplitWords, JoinWords, AsmWords, UpgradeWords, split, join, asm, upgrade}
use Rattle.rv_commands.specs.Lines.{state_lines, cell_line}
use Rattle.rv_commands.specs.Outcome.{asked, cell_text, renewed, state_text, tells, upgrade_done}
use Rattle.rv_commands.specs.Parts.{part_name, parts_due}

-- the file is the record of the program's run on the input, at a version and a shard size of its own
pub record IsRecordOfRun (elf input file : List ℕ) : Type 0 where
  pub version : ℕ
  pub size : ℕ
  pub steps : ℕ
  pub end : End
  pub is : IsRecord sha_lanes version elf input size steps end file

-- an accepted file is the record of the run, or itself shows two different multisets of one digest
pub record Accepted (files : Option Files) (w : CheckWords) : Type 0 where
  pub elf : List ℕ
  pub input : List ℕ
  pub file : List ℕ
  pub elf_is : IsContents files w.elf elf
  pub input_is : IsContents files w.input input
  pub file_is : IsContents files w.file file
  pub sound : IsRecordOfRun elf input file ⊎ IsCollision sha_lanes elf file

-- a settled file is the record of the run
pub record Settled (files : Option Files) (w : SettleWords) : Type 0 where
  pub elf : List ℕ
  pub input : List ℕ
  pub file : List ℕ
  pub elf_is : IsContents files w.elf elf
  pub input_is : IsContents files w.input input
  pub file_is : IsContents files w.file file
  pub settled : IsRecordOfRun elf input file

-- what is made is the record of the run, it alone is written, it is accepted, and it isn't too long to be held whole
pub record Made (before after : ShelfView) (w : MakeWords) : Type 0 where
  pub elf : List ℕ
  pub input : List ℕ
  pub steps : ℕ
  pub end : End
  pub elf_is : IsContents before.files w.elf elf
  pub input_is : IsContents before.files w.input input
  pub has : HasRecord w.version elf input w.shard steps end
  pub written : IsWritten ((w.target, record_file sha_lanes w.version elf input w.shard steps end) ∷ []) before after
  pub accepted : verdict sha_lanes elf input (record_file sha_lanes w.version elf input w.shard steps end) ≡ Accept steps (div_ceil steps w.shard) end
  pub short : length (record_file sha_lanes w.version elf input w.shard steps end) ≤ RECORD_LIMIT

-- the run of a generated program exits with code 0, and its record is accepted
pub record Tried (w : TrialWords) : Type 0 where
  pub told : Trial
  pub is : trial_told w.number w.size ≡ Some told
  pub accepted : IsAccepted w.number w.size told

-- The text of the answer to a question on a file is the one that is due of the run at the file's version, which has the step that is asked for; or the file shows two different multisets of one digest.
pub record AnswersOfRun (elf input file : List ℕ) (step : ℕ) (text : Parts → Option (List ℕ)) (due : Parts → List ℕ) : Type 0 where
  pub parts : Parts
  pub spells : Spells parts file
  pub has_step : step < parts.header.steps
  pub of_run : (asked text (judge sha_lanes elf input file) ≡ tells (due parts)) ⊎ IsCollision sha_lanes elf file

-- what state tells of a file is the run's state before the step
abbrev pub StateAnswered : List ℕ → List ℕ → List ℕ → StateWords → Type 0
StateAnswered elf input file w = AnswersOfRun elf input file w.step (state_text w elf) (λ p. state_lines w.step (snapshot (state_of (image_of elf p) input w.step)))

-- what cell tells of a file is what that state holds in the cell, with the time of its last use and the step of its last change in the run's trace
abbrev pub CellAnswered : List ℕ → List ℕ → List ℕ → CellWords → Type 0
CellAnswered elf input file w = AnswersOfRun elf input file w.step (cell_text w elf) (λ p. cell_line w.name (cell_of_run elf input p w.number w.step))

pub record StateTold (files : Option Files) (w : StateWords) : Type 0 where
  pub elf : List ℕ
  pub input : List ℕ
  pub file : List ℕ
  pub elf_is : IsContents files w.elf elf
  pub input_is : IsContents files w.input input
  pub file_is : IsContents files w.file file
  pub answer : StateAnswered elf input file w

pub record CellTold (files : Option Files) (w : CellWords) : Type 0 where
  pub elf : List ℕ
  pub input : List ℕ
  pub file : List ℕ
  pub elf_is : IsContents files w.elf elf
  pub input_is : IsContents files w.input input
  pub file_is : IsContents files w.file file
  pub answer : CellAnswered elf input file w

-- The parts of the record alone are written, with the heads that say which they are; their front and all bodies in order are the record.
pub record Cut (before after : ShelfView) (w : SplitWords) : Type 0 where
  pub file : List ℕ
  pub parts : Parts
  pub file_is : IsContents before.files w.file file
  pub spells : Spells parts file
  pub few : w.parts ≤ parts.header.shards
  pub written : IsWritten (parts_due parts w.parts w.name) before after
  pub whole_is : whole (front_of parts) (bodies_of parts w.parts) ≡ file

-- behind its head, each file from part p on is the front and its body
abbrev pub AreParts : Option Files → List ℕ → List ℕ → ℕ → List (List ℕ) → Type 0
AreParts files name front p [] = ⊤
AreParts files name front p (body ∷ bodies) =
    ((file : List ℕ) × IsContents files (part_name name p) file × (drop PART_HEAD_BYTES file ≡ front ++ body)) × AreParts files name front (p + 1) bodies

-- the parts make an accepted file: their front, and all bodies in order
pub record JoinedParts (files : Option Files) (w : JoinWords) : Type 0 where
  pub elf : List ℕ
  pub input : List ℕ
  pub front : List ℕ
  pub bodies : List (List ℕ)
  pub elf_is : IsContents files w.elf elf
  pub input_is : IsContents files w.input input
  pub count : length bodies ≡ w.parts
  pub parts_are : AreParts files w.name front 0 bodies
  pub sound : IsRecordOfRun elf input (whole front bodies) ⊎ IsCollision sha_lanes elf (whole front bodies)

-- A file is the executable of a source's words: an ELF file without a fault, whose image has the word of each statement at the statement's address. But for `.word`, that word decodes to the instruction that the statement spells.
pub record IsExecutableOf (source file : List ℕ) : Type 0 where
  pub words : List ℕ
  pub words_are : assembly source ≡ Ok words
  pub count : length words ≡ length (statements_of source)
  pub is : file ≡ executable words
  pub faultless : first_fault file ≡ None
  pub statements : HoldsStatements source (image 1 file)

-- the executable of the source alone is written
pub record Assembled (before after : ShelfView) (w : AsmWords) : Type 0 where
  pub source : List ℕ
  pub file : List ℕ
  pub source_is : IsContents before.files w.source source
  pub file_is : IsExecutableOf source file
  pub written : IsWritten ((w.target, file) ∷ []) before after

-- A file has an upgrade: it spells parts that nothing blocks, of which the steps and the bytes of the upgraded file are told. Where a program and an input accept the file, they accept the upgraded one too: its parts are the same but for the version, and so are the two lists of tuples. Where it is the version 1 record of a run, the upgraded one is the version 2 record of that run.
pub record HasUpgrade (w : UpgradeWords) (file : List ℕ) : Type 0 where
  pub parts : Parts
  pub spells : Spells parts file
  pub free : blocked parts ≡ None
  pub told : renewed w file (parse file) ≡ upgrade_done w file parts.header.steps
  pub accepted : (elf input : List ℕ) (p : Parts) → judge sha_lanes elf input file ≡ Ok p → IsAcceptedToo sha_lanes elf input file p
  pub of_run : (elf input : List ℕ) (size n : ℕ) (e : End) → AreBytes elf → AreBytes input → IsRecord sha_lanes 1 elf input size n e file → IsRecord sha_lanes 2 elf input size n e (upgraded file)

-- the upgraded file of the record alone is written
pub record Upgraded (before after : ShelfView) (w : UpgradeWords) : Type 0 where
  pub file : List ℕ
  pub file_is : IsContents before.files w.file file
  pub has : HasUpgrade w file
  pub written : IsWritten ((w.target, upgraded file) ∷ []) before after

-- The headline, of each command that succeeds.
abbrev pub Headline : Option CommandWords → ShelfView → ShelfView → Type 0
Headline (Some (make w)) before after = Made before after w
Headline (Some (pipe w)) before after = Made before after w.make
Headline (Some (check w)) before after = Accepted before.files w
Headline (Some (settle w)) before after = Settled before.files w
Headline (Some (run w)) before after = ⊤
Headline (Some (explain w)) before after = ⊤
Headline (Some (trial w)) before after = Tried w
Headline (Some (state w)) before after = StateTold before.files w
Headline (Some (cell w)) before after = CellTold before.files w
Headline (Some (split w)) before after = Cut before after w
Headline (Some (join w)) before after = JoinedParts before.files w
Headline (Some (asm w)) before after = Assembled before after w
Headline (Some (upgrade w)) before after = Upgraded before after w
Headline None before after = ⊥
