-- The cutting of a record file into parts, by what its calls answer.
use Rattle.std.specs.Prelude.{◌≡◌, ◌≤◌, ◌⊎◌, ℕ, List, ◌++◌, Result, Ok, Err, IfOk}
use Rattle.std.specs.Borrow.{Bor}
use Rattle.std.specs.List.{flat_map}
use Rattle.rv_spec.specs.Grammar.{Spells}
use Rattle.rv_spec.specs.Record.{Parts}
use Rattle.rv_rules.specs.Verdict.{parse}
use Rattle.rv_host.specs.Views.{ShelfView}
use Rattle.rv_parts.specs.declared.cutting.PartCut.{PartCut}
use Rattle.rv_parts.specs.Cutting.{bodies_of, front_of, whole}
use Rattle.rv_plan.specs.Plan.{Due, answer}
use Rattle.rv_plan.specs.Endings.{IsWritten, Leaves, WriteFails}
use Rattle.rv_plan.specs.FileCalls.{PerformsBehind}
use Rattle.rv_plan.specs.declared.faults.Fault.{Fault}
use Rattle.rv_plan.specs.declared.faults.Fault.TheVariants.{Memory, Write}
use Rattle.rv_plan.specs.declared.told.Told.{Told}
use Rattle.rv_plan.specs.declared.writing.DueFile.{DueFile}
use Rattle.rv_commands.specs.CommandLine.{SplitWords}
use Rattle.rv_commands.specs.Lines.{split_line}
use Rattle.rv_commands.specs.Outcome.{cut}
use Rattle.rv_commands.specs.Parts.{bytes_due, parts_due}

-- the bytes of a part
abbrev pub cut_bytes : PartCut → List ℕ
cut_bytes c = c.head ++ c.front.now ++ c.body.now

abbrev pub piece_bytes : List (Bor (List ℕ)) → List ℕ
piece_bytes piece = flat_map (λ part. part.now) piece

abbrev pub file_bytes : DueFile → List ℕ
file_bytes file = flat_map (λ part. part.now) file.parts.now

-- Files that are due are written and told, or writing failed at one, or there was no memory before.
abbrev pub WritesParts : ℕ → List Due → ShelfView → ShelfView → Result Told Fault → Type 0
WritesParts parts due before after (Ok told) = (told.status ≡ 0) × (told.text ≡ split_line parts (bytes_due due)) × IsWritten due before after
WritesParts parts due before after (Err fault) = ((fault ≡ Write) × WriteFails due before after) ⊎ ((fault ≡ Memory) × Leaves before after)

-- the parts of a file are written
pub record AreWritten (w : SplitWords) (file : List ℕ) (before after : ShelfView) : Type 0 where
  pub parts : Parts
  pub spells : Spells parts file
  pub few : w.parts ≤ parts.header.shards
  pub written : IsWritten (parts_due parts w.parts w.name) before after
  pub whole_is : whole (front_of parts) (bodies_of parts w.parts) ≡ file

-- a file that was read is cut as the plan says, and success says that its parts are written
pub record CutsFile (w : SplitWords) (file : List ℕ) (before after : ShelfView) (result : Result Told Fault) : Type 0 where
  pub performs : PerformsBehind (answer (cut w (parse file))) before after result
  pub cuts : IfOk result (λ told. told.status ≡ 0 → AreWritten w file before after)
