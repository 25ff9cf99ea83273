use Rattle.std.proofs.Common.{◌≡◌, ◌<◌, ◌^◌, take}
use Rattle.rv_commands.specs.CommandLine.{hex_value}
use Rattle.rv_commands.proofs.spelled_cells.hex_value.Given as goal

abbrev pub invariant-loop-byte : goal.invariant-loop-byte
invariant-loop-byte l = record { value : l.value ≡ hex_value (take l.byte-index l.digits); below : l.value < 16 ^ l.byte-index }
