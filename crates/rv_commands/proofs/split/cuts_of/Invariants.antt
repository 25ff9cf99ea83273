use Rattle.std.proofs.Common.{◌≡◌, map}
use Rattle.std.specs.List.{range_with_len}
use Rattle.rv_parts.specs.Cutting.{part_bytes}
use Rattle.rv_commands.specs.Splitting.{cut_bytes}
use Rattle.rv_commands.proofs.split.cuts_of.Given as goal

abbrev pub invariant-loop-number : goal.invariant-loop-number
invariant-loop-number l = map cut_bytes l.cuts.items ≡ map (part_bytes l.parsed l.parts) (range_with_len 0 l.number)
