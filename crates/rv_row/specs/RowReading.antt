-- A row as the definitions know it, and what reading one answers.
use Rattle.std.specs.Prelude.{◌≡◌, ℕ, ◌≤◌, List, ◌++◌, length, drop, Some, None}
use Rattle.rv_base.specs.declared.rules.TheConstants.{SHORT, ROW_SHAPE}
use Rattle.rv_spec.specs.Trace.{Row as Traced}
use Rattle.rv_spec.specs.Record.{row_bytes}
use Rattle.rv_spec.specs.Grammar.{RowFits}
use Rattle.rv_rules.specs.Reading.{row_of, row_form, row_size}
use Rattle.rv_rules.specs.Checks.{first_broken}
use Rattle.rv_row.specs.declared.rows.Row.{Row}
use Rattle.rv_row.specs.declared.rows.RowFound.{RowFound}
use Rattle.rv_row.specs.declared.rows.RowFound.TheVariants as found
use Rattle.rv_row.specs.declared.rows.RowRead.{RowRead}
use Rattle.rv_row.specs.declared.rows.RowRead.TheVariants as read

abbrev pub row_view : Row → Traced
row_view r = record { pc = r.pc; next = r.next; accesses = r.accesses.items }

-- what is found, with the row that is then in its caller's place
abbrev pub found_in : Row → RowFound → RowRead
found_in r (found.Row n) = read.Row r n
found_in r found.Short = read.Short
found_in r found.Shape = read.Shape

-- What reading a row at the front of bytes answers: the row and its length where its form is good, else which check of form is the first to be broken.
abbrev pub ReadsRow : List ℕ → RowRead → Type 0
ReadsRow bytes (read.Row r n) = (first_broken (row_form bytes) ≡ None) × (row_view r ≡ row_of bytes) × (n ≡ row_size bytes) × (n ≤ length bytes)
ReadsRow bytes read.Short = first_broken (row_form bytes) ≡ Some SHORT
ReadsRow bytes read.Shape = first_broken (row_form bytes) ≡ Some ROW_SHAPE

-- The row in its caller's place stays where none is found.
abbrev pub StaysUnlessFound : RowFound → Row → Row → Type 0
StaysUnlessFound (found.Row n) before after = Unit {0}
StaysUnlessFound found.Short before after = after ≡ before
StaysUnlessFound found.Shape before after = after ≡ before

-- A row that is answered is spelled by the bytes.
abbrev pub SpellsRow : List ℕ → RowRead → Type 0
SpellsRow bytes (read.Row r n) = RowFits (row_view r) × (bytes ≡ row_bytes (row_view r) ++ drop n bytes)
SpellsRow bytes read.Short = Unit {0}
SpellsRow bytes read.Shape = Unit {0}

-- The answer is this row, of this many bytes.
abbrev pub IsRow : RowRead → Traced → ℕ → Type 0
IsRow (read.Row r n) row size = (row_view r ≡ row) × (n ≡ size)
IsRow read.Short row size = ⊥
IsRow read.Shape row size = ⊥

-- The law of one spelling: bytes begin with at most one row.
abbrev pub OneRow : Type 0
OneRow = (r s : Traced) (x y : List ℕ) → RowFits r → RowFits s → row_bytes r ++ x ≡ row_bytes s ++ y → (r ≡ s) × (x ≡ y)
