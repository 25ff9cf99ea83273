-- The lines that show rows of a record file (this project's own).
use Rattle.std.specs.Prelude.{ℕ, ◌+◌, ◌-◌, ◌*◌, List, [], ◌∷◌, ◌++◌, length, take, drop, replicate, Option, Some, None, codes, decimal, nat_lt, ◌==◌, if◌then◌else◌}
use Rattle.std.specs.List.{flat_map}
use Rattle.rv_base.specs.LittleEndian.{time_of}
use Rattle.rv_base.specs.declared.cells.TheConstants.{REGISTER_CELLS, RESERVATION_CELL}
use Rattle.rv_base.specs.declared.record.Access.{Access}
use Rattle.rv_spec.specs.Trace.{Row}
use Rattle.rv_spec.specs.Record.{Parts, all_rows}
use Rattle.rv_text.specs.Syntax.{hex, disassembly, atomic_disassembly}

-- eight hexadecimal digits in lower case
unfoldable pub hex8 : ℕ → List ℕ
hex8 n = replicate (8 - length (hex n)) 48 ++ hex n

-- the text of a word in a version
abbrev pub or_plain : ℕ → Option (List ℕ) → List ℕ
or_plain w (Some text) = text
or_plain w None = disassembly w

unfoldable pub word_text : ℕ → ℕ → List ℕ
word_text version w = if version == 2 then or_plain w (atomic_disassembly w) else disassembly w

-- m and the address of a word of memory, x and the number of a register, or c and the cell's number
unfoldable pub cell_name : ℕ → List ℕ
cell_name cell =
    if nat_lt cell REGISTER_CELLS then 109 ∷ hex8 (4 * cell)
    else (if nat_lt cell RESERVATION_CELL then 120 ∷ decimal (cell - REGISTER_CELLS) else 99 ∷ decimal cell)

-- a value and a time
abbrev pub stamped : ℕ → ℕ → List ℕ
stamped value time = hex8 value ++ 64 ∷ decimal time

unfoldable pub access_line : ℕ → Access → List ℕ
access_line step a =
    codes "  slot " ++ decimal a.slot ++ 32 ∷ cell_name a.cell ++ 32 ∷ stamped a.old a.prev ++ 32 ∷ stamped a.new (time_of step a.slot) ++ 10 ∷ []

-- the fetched word
abbrev pub word_of : List Access → ℕ
word_of [] = 0
word_of (a ∷ others) = a.old

unfoldable pub step_line : ℕ → ℕ → Row → List ℕ
step_line version step r =
    let w = word_of r.accesses in
    codes "step " ++ decimal step ++ codes " pc " ++ hex8 r.pc ++ codes " word " ++ hex8 w ++ 32 ∷ word_text version w ++ 10 ∷ []

unfoldable pub row_lines : ℕ → ℕ → Row → List ℕ
row_lines version step r = step_line version step r ++ flat_map (access_line step) r.accesses

-- the lines of rows, the first of which is of this step
unfoldable pub lines_from : ℕ → ℕ → List Row → List ℕ
lines_from version step [] = []
lines_from version step (r ∷ rs) = row_lines version step r ++ lines_from version (step + 1) rs

-- the lines of as many rows from a step on as are there
unfoldable pub listing : Parts → ℕ → ℕ → List ℕ
listing p from count = lines_from p.header.version from (take count (drop from (all_rows p)))
