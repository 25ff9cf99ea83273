use Rattle.rv_commands.specs.Commands.{join_words}
use Rattle.rv_commands.proofs.Joining.{IsBehind}
use Rattle.rv_commands.proofs.join.join_parts.Given as goal

abbrev pub invariant-loop-number : goal.invariant-loop-number
invariant-loop-number g l = IsBehind (join_words l.fn.words) l.fn.program.elf l.fn.program.input (g.S.Shelf.view l.fn.shelf) (g.S.Shelf.view l.shelf) l.joining l.number
