-- The words and the symbols of a source, or its first fault (this project's own).
use Rattle.std.specs.Prelude.{◌≡◌, ℕ, ◌+◌, Bool, false, not, ◌||◌, List, [], ◌∷◌, ◌++◌, length, Option, Some, None, Result, Ok, Err, ◌==◌, if◌then◌else◌}
use Rattle.std.specs.List.{list_all}
use Rattle.std.specs.Option.{option_to_list}
use Rattle.std.specs.Str.Lines.{lines}
use Rattle.rv_asm.specs.declared.faults.AsmFault.{AsmFault}
use Rattle.rv_asm.specs.declared.faults.AsmFault.TheVariants.{At, NoMemory}
use Rattle.rv_asm.specs.declared.faults.TheConstants.{BYTES, LABEL, TOO_LONG}
use Rattle.rv_asm.specs.declared.limits.TheConstants.{STATEMENTS_LIMIT}
use Rattle.rv_asm.specs.Lines.{code, is_plain, label_text, statement_text}
use Rattle.rv_asm.specs.Numbers.{is_name}
use Rattle.rv_asm.specs.Statements.{statement_word}
use Rattle.rv_asm.specs.Symbols.{Symbol, symbol_named, with_name, address_of, distance, is_before}

-- ---- symbols

-- 1 where a line has a statement
abbrev pub statements : List ℕ → ℕ
statements line = if length (statement_text line) == 0 then 0 else 1

-- the symbols with the label of line n, before which k statements stand. Of equal labels the first counts.
abbrev pub with_label : List Symbol → ℕ → ℕ → Option (List ℕ) → List Symbol
with_label symbols n k (Some name) = if is_name name then with_name symbols n (address_of k) name (symbol_named symbols name) else symbols
with_label symbols n k None = symbols

-- the symbols with those of the lines from line n on
unfoldable pub symbols_from : List Symbol → ℕ → ℕ → List (List ℕ) → List Symbol
symbols_from symbols n k [] = symbols
symbols_from symbols n k (l ∷ ls) = symbols_from (with_label symbols n k (label_text l)) (n + 1) (k + statements l) ls

unfoldable pub symbols_of : List ℕ → List Symbol
symbols_of source = symbols_from [] 1 0 (lines source)

-- ---- faults

-- a label that is no name, or that an earlier line has
abbrev pub is_bad_label : List Symbol → ℕ → Option (List ℕ) → Bool
is_bad_label symbols n (Some name) = not (is_name name) || is_before n (symbol_named symbols name)
is_bad_label symbols n None = false

-- the word of a statement that has no fault, unless it is one too many
abbrev pub counted : ℕ → Result ℕ ℕ → Result (Option ℕ) ℕ
counted k (Ok word) = if k == STATEMENTS_LIMIT then Err TOO_LONG else Ok (Some word)
counted k (Err kind) = Err kind

-- the word of line n, before which k statements stand, or none where it has no statement, or the least kind of its faults
unfoldable pub line_word : List Symbol → ℕ → ℕ → List ℕ → Result (Option ℕ) ℕ
line_word symbols n k line =
    if not (list_all is_plain (code line)) then Err BYTES
    else (if is_bad_label symbols n (label_text line) then Err LABEL
    else (if length (statement_text line) == 0 then Ok None
    else counted k (statement_word (distance symbols k) (statement_text line))))

-- ---- the whole

-- a line's word before those behind it; the first fault counts
abbrev pub joined : ℕ → Result (Option ℕ) ℕ → Result (List ℕ) AsmFault → Result (List ℕ) AsmFault
joined n (Err kind) later = Err (At n kind)
joined n (Ok word) (Ok words) = Ok (option_to_list word ++ words)
joined n (Ok word) (Err fault) = Err fault

-- the words of the lines from line n on
unfoldable pub words_from : List Symbol → ℕ → ℕ → List (List ℕ) → Result (List ℕ) AsmFault
words_from symbols n k [] = Ok []
words_from symbols n k (l ∷ ls) = joined n (line_word symbols n k l) (words_from symbols (n + 1) (k + statements l) ls)

-- the words of a source, or its first fault
unfoldable pub assembly : List ℕ → Result (List ℕ) AsmFault
assembly source = words_from (symbols_of source) 1 0 (lines source)

-- a fault that is told is the first; want of memory says nothing
abbrev pub IsFaultOf : List ℕ → AsmFault → Type 0
IsFaultOf source (At line kind) = assembly source ≡ Err (At line kind)
IsFaultOf source NoMemory = Unit {0}
