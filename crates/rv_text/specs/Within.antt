-- The lines of the rows that are asked for, by the steps that they are of: a private step of listing.
use Rattle.std.specs.Prelude.{ℕ, ◌+◌, List, [], ◌∷◌, ◌++◌, nat_le, nat_lt, ◌&&◌, if◌then◌else◌}
use Rattle.rv_spec.specs.Trace.{Row}
use Rattle.rv_text.specs.Listing.{row_lines}

-- the lines of a row, where its step is within the range
abbrev pub here : ℕ → ℕ → ℕ → ℕ → Row → List ℕ
here version from until step r = if nat_le from step && nat_lt step until then row_lines version step r else []

-- of rows the first of which is of this step, the lines of those from one step to before another
unfoldable pub lines_within : ℕ → ℕ → ℕ → ℕ → List Row → List ℕ
lines_within version from until step [] = []
lines_within version from until step (r ∷ rs) = here version from until step r ++ lines_within version from until (step + 1) rs
