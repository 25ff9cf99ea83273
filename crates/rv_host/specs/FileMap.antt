-- Files in memory, as the files that they mean.
use Rattle.std.specs.Prelude.{ℕ, List, String, Vec, map, string_bytes}
use Rattle.std.specs.declared.alloc.Global.{Global}
use Rattle.rv_host.specs.Files.{Files}

abbrev pub files_of : List (String Global × Vec ℕ Global) → Files
files_of entries = map (λ e. (string_bytes e.0, e.1.items)) entries
