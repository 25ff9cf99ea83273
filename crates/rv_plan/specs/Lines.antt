-- The lines of faults: numbers are decimal, and each line ends with a newline (this project's own).
use Rattle.std.specs.Prelude.{ℕ, ◌-◌, false, List, [], ◌∷◌, ◌++◌, length, replicate, codes, decimal, ◌==◌, if◌then◌else◌}
use Rattle.std.specs.Fmt.{digits}

abbrev pub line : List ℕ → List ℕ
line text = text ++ 10 ∷ []

-- the name at a number, from 1 on
abbrev pub name_at : List (List ℕ) → ℕ → List ℕ
name_at [] n = []
name_at (x ∷ xs) n = if n == 1 then x else name_at xs (n - 1)

-- the faults of an ELF file in order of their numbers
abbrev pub fault_names : List (List ℕ)
fault_names =
    codes "Short" ∷ codes "Magic" ∷ codes "Class" ∷ codes "Order" ∷ codes "Version" ∷ codes "Kind" ∷ codes "Machine"
    ∷ codes "HeaderSize" ∷ codes "Headers" ∷ codes "Interpreter" ∷ codes "SegmentFile" ∷ codes "SegmentSize" ∷ codes "SegmentWrap"
    ∷ codes "TooMany" ∷ codes "Overlap" ∷ codes "Entry" ∷ []

abbrev pub elf_line : ℕ → List ℕ
elf_line n = line (codes "fault elf " ++ decimal n ++ 32 ∷ name_at fault_names n)

abbrev pub budget_line : ℕ → List ℕ
budget_line budget = line (codes "fault budget " ++ decimal budget)

abbrev pub limit_line : List ℕ → List ℕ
limit_line what = line (codes "fault limit " ++ what)

-- eight hexadecimal digits in lower case
abbrev pub hex8 : ℕ → List ℕ
hex8 n = replicate (8 - length (digits 16 false n)) 48 ++ digits 16 false n

abbrev pub version_line : List ℕ → List ℕ
version_line reason = line (codes "fault version " ++ reason)

abbrev pub part_line : ℕ → List ℕ → List ℕ
part_line number what = line (codes "fault part " ++ decimal number ++ 32 ∷ what)

abbrev pub step_line : ℕ → List ℕ
step_line steps = line (codes "fault step " ++ decimal steps)

-- the kinds of an assembler's faults in order of their numbers
abbrev pub kind_names : List (List ℕ)
kind_names = codes "Bytes" ∷ codes "Label" ∷ codes "Statement" ∷ codes "Operands" ∷ codes "Undefined" ∷ codes "Range" ∷ codes "TooLong" ∷ []

abbrev pub assembly_line : ℕ → ℕ → List ℕ
assembly_line at kind = line (codes "fault asm " ++ decimal at ++ 32 ∷ decimal kind ++ 32 ∷ name_at kind_names kind)
