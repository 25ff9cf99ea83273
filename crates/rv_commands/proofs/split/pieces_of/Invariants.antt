use Rattle.std.proofs.Common.{◌≡◌, map, take}
use Rattle.rv_commands.specs.Splitting.{cut_bytes, piece_bytes}
use Rattle.rv_commands.proofs.split.pieces_of.Given as goal

abbrev pub invariant-loop-cut : goal.invariant-loop-cut
invariant-loop-cut l = map piece_bytes l.pieces.items ≡ map cut_bytes (take l.cut-index l.cuts)
