-- The statuses and lines of what ends a command early.
use Rattle.std.specs.Prelude.{ℕ, Bool, true, false, List, ◌++◌, codes}
use Rattle.rv_elf.specs.Faults.{number_of}
use Rattle.rv_plan.specs.declared.faults.Limited.{Limited}
use Rattle.rv_plan.specs.declared.faults.Limited.TheVariants as limited
use Rattle.rv_plan.specs.declared.faults.PartFault.{PartFault}
use Rattle.rv_plan.specs.declared.faults.PartFault.TheVariants as part
use Rattle.rv_plan.specs.declared.faults.VersionFault.{VersionFault}
use Rattle.rv_plan.specs.declared.faults.VersionFault.TheVariants as version
use Rattle.rv_plan.specs.declared.faults.Fault.{Fault}
use Rattle.rv_plan.specs.declared.faults.Fault.TheVariants.{Words, Elf, Budget, Read, Write, Memory, Limit, Version, Part, Step, Assembly}
use Rattle.rv_plan.specs.Lines.{line, elf_line, budget_line, limit_line, version_line, hex8, part_line, step_line, assembly_line}

abbrev pub status_of : Fault → ℕ
status_of Words = 2
status_of (Elf _) = 3
status_of (Budget _) = 4
status_of Read = 5
status_of Write = 6
status_of Memory = 7
status_of (Limit _) = 8
status_of (Version _) = 10
status_of (Part _ _) = 11
status_of (Step _) = 12
status_of (Assembly _ _) = 13

abbrev pub name_of : Limited → List ℕ
name_of limited.Elf = codes "elf"
name_of limited.Input = codes "input"
name_of limited.Record = codes "record"
name_of limited.Shards = codes "shards"
name_of limited.Parts = codes "parts"
name_of limited.Source = codes "source"

abbrev pub what_of : PartFault → List ℕ
what_of part.Head = codes "head"
what_of part.Front = codes "front"
what_of part.Cover = codes "cover"
what_of part.Cut = codes "cut"

-- why a record has no upgrade: its version, or the word that its last step fetched
abbrev pub reason_of : VersionFault → List ℕ
reason_of version.New = codes "new"
reason_of (version.Atomic word) = codes "atomic " ++ hex8 word

abbrev pub line_of : Fault → List ℕ
line_of Words = line (codes "fault words")
line_of (Elf fault) = elf_line (number_of fault)
line_of (Budget steps) = budget_line steps
line_of Read = line (codes "fault read")
line_of Write = line (codes "fault write")
line_of Memory = line (codes "fault memory")
line_of (Limit what) = limit_line (name_of what)
line_of (Version fault) = version_line (reason_of fault)
line_of (Part number fault) = part_line number (what_of fault)
line_of (Step steps) = step_line steps
line_of (Assembly at kind) = assembly_line at kind

-- the lines that tell a number
abbrev pub has_number : Fault → Bool
has_number (Elf _) = true
has_number (Budget _) = true
has_number (Version (version.Atomic _)) = true
has_number (Part _ _) = true
has_number (Step _) = true
has_number (Assembly _ _) = true
has_number _ = false
