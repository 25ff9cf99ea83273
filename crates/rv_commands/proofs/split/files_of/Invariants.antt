use Rattle.std.proofs.Common.{◌≡◌, map, string_bytes, take}
use Rattle.std.specs.List.{zip}
use Rattle.rv_plan.specs.FileCalls.{due_of}
use Rattle.rv_commands.specs.Splitting.{piece_bytes}
use Rattle.rv_commands.proofs.split.files_of.Given as goal

abbrev pub invariant-loop-i : goal.invariant-loop-i
invariant-loop-i l = map due_of l.files.items ≡ zip (map string_bytes (take l.i l.names)) (map piece_bytes (take l.i l.pieces))
