use Rattle.std.proofs.Common.{◌≡◌, length, take}
use Rattle.std.specs.List.{flat_map}
use Rattle.rv_commands.specs.Splitting.{file_bytes}
use Rattle.rv_commands.proofs.split.bytes_in.Given as goal

abbrev pub invariant-loop-file : goal.invariant-loop-file
invariant-loop-file l = l.bytes ≡ length (flat_map file_bytes (take l.file-index l.files))
