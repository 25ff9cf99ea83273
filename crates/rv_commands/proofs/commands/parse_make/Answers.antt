use Rattle.std.proofs.Common.{ap, option_map}
use Rattle.rv_commands.specs.CommandLine.{make}
use Rattle.rv_commands.proofs.commands.parse_make.Goals as goal

pub returns-in_err-made : goal.returns-in_err-made
returns-in_err-made c = rw c.from_residual.ensures (record { command = ap (option_map make) c.in_err-made.ensures.making; ranges = tt })
