use Rattle.std.proofs.Common.{◌≡◌, ◌<◌, ◌^◌, take}
use Rattle.rv_commands.specs.CommandLine.{decimal_value}
use Rattle.rv_commands.proofs.numbers.value_of.Given as goal

abbrev pub invariant-loop-digit : goal.invariant-loop-digit
invariant-loop-digit l = record { value : l.value ≡ decimal_value (take l.digit-index l.digits); below : l.value < 10 ^ l.digit-index }
