use Rattle.std.proofs.Common.{None, sym, arith}
use Rattle.std.proofs.lemmas.Str.Pattern.{strip_prefix_char}
use Rattle.rv_commands.proofs.Spelling.{no-cell}
use Rattle.rv_commands.proofs.spelled_cells.cell.Goals as goal

pub returns-in-None-clause-cell : goal.returns-in-None-clause-cell
returns-in-None-clause-cell c =
    sym (no-cell c.args.text.now (strip_prefix_char 120 c.args.text.now None c.in_default.ensures.cases (omega arith)) (strip_prefix_char 109 c.args.text.now None c.in-None.ensures.cases (omega arith)))
