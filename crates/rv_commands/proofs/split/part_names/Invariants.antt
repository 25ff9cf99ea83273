use Rattle.std.proofs.Common.{◌≡◌, map, string_bytes}
use Rattle.std.specs.List.{range_with_len}
use Rattle.rv_commands.specs.Parts.{part_name}
use Rattle.rv_commands.proofs.split.part_names.Given as goal

abbrev pub invariant-loop-number : goal.invariant-loop-number
invariant-loop-number l = map string_bytes l.names.items ≡ map (part_name l.name) (range_with_len 0 l.number)
