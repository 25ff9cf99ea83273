-- Files by name. A file whose name is absent counts as empty.
use Rattle.std.specs.Prelude.{ℕ, List, [], ◌++◌, Option, Some, None}
use Rattle.std.specs.Map.{lookup}
use Rattle.std.specs.BTreeMap.{insert_entry, is_at}
use Rattle.std.specs.Cmp.Lexicographic.{slice_cmp}
use Rattle.std.specs.Ordering.{nat_cmp}

-- names and bytes, by rising name
abbrev pub Files : Type 0
Files = List (List ℕ × List ℕ)

abbrev pub found : Files → List ℕ → Option (List ℕ)
found files name = lookup (is_at (slice_cmp nat_cmp name)) files

abbrev pub or_empty : Option (List ℕ) → List ℕ
or_empty None = []
or_empty (Some bytes) = bytes

abbrev pub file : Files → List ℕ → List ℕ
file files name = or_empty (found files name)

abbrev pub with_file : Files → List ℕ → List ℕ → Files
with_file files name bytes = insert_entry (slice_cmp nat_cmp) files name bytes

-- with bytes at the end of a file
abbrev pub with_added : Files → List ℕ → List ℕ → Files
with_added files name bytes = with_file files name (file files name ++ bytes)
