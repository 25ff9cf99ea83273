use Rattle.std.proofs.Common.{◌≡◌, ◌++◌, length, take}
use Rattle.std.specs.Int.{w32, to_le_bytes}
use Rattle.std.specs.List.{flat_map}
use Rattle.rv_spec.specs.Record.{entry_bytes}
use Rattle.rv_file.proofs.table.table_bytes.Given as goal

abbrev pub invariant-loop-e : goal.invariant-loop-e
invariant-loop-e l = l.bytes.items ≡ to_le_bytes w32 (length l.entries) ++ flat_map entry_bytes (take l.e-index l.entries)
