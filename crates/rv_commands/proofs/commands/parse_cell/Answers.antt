use Rattle.std.proofs.Common.{map, Global, string_bytes, arith}
use Rattle.std.proofs.lemmas.List.{length-map}
use borrow.Author.Tests.{ltb-true, ltb-false}
use Rattle.rv_commands.proofs.Spelling.{not-five}
use Rattle.rv_commands.proofs.commands.parse_cell.Goals as goal
use Rattle.rv_commands.proofs.commands.parse_cell.Goals.{in_default-via-then-arguments-lt5, in_default-via-else-arguments-lt5+else-arguments-lt6}

pub returns-in_default-clause-command : goal.returns-in_default-clause-command
returns-in_default-clause-command c = elim c.in_default.branch [
  | in_default-via-then-arguments-lt5 w ↦ not-five (map string_bytes c.args.arguments.now) (λ e. absurd (omega (arith, ltb-true, ltb-false, e, length-map c.args.arguments.now (string_bytes {Z = Global}))))
  | in_default-via-else-arguments-lt5+else-arguments-lt6 w ↦ not-five (map string_bytes c.args.arguments.now) (λ e. absurd (omega (arith, ltb-true, ltb-false, e, length-map c.args.arguments.now (string_bytes {Z = Global}))))
]
