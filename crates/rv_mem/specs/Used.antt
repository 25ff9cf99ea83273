-- The used words among some, as entries of a table.
use Rattle.std.specs.Prelude.{◌+◌, ◌-◌, ℕ, zero, suc, List, [], ◌∷◌, ◌++◌, slice_index_or, nat_lt, if◌then◌else◌}
use Rattle.rv_base.specs.declared.record.TableEntry.{TableEntry}
use Rattle.rv_mem.specs.declared.word.Word.{Word}

abbrev pub no_word : Word
no_word = record { value = 0; time = 0 }

-- the word of a cell, where the cells of a list begin with some cell
abbrev pub listed_word : List Word → ℕ → ℕ → Word
listed_word words first cell = slice_index_or words (cell - first) no_word

-- the entry of a cell, if it was used
abbrev pub if_used : ℕ → Word → List TableEntry
if_used cell w = if nat_lt 0 w.time then record { cell = cell; value = w.value; time = w.time } ∷ [] else []

-- the used ones of n cells from a cell on
unfoldable pub used : (ℕ → Word) → ℕ → ℕ → List TableEntry
used f from zero = []
used f from (suc n) = used f from n ++ if_used (from + n) (f (from + n))
