-- That a table of instructions names one instruction at most for each word.
use Rattle.std.specs.Prelude.{ℕ, ◌≤◌, List, count_by}
use Rattle.rv_spec.specs.Decode.{Encoding}

-- at most one row of the table fits the word
abbrev pub FitsOneRow : {A : Type 0} → List (Encoding A) → ℕ → Type 0
FitsOneRow rows w = count_by (λ r. r.matches w) rows ≤ 1
