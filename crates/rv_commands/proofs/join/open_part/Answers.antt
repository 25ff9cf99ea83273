use Rattle.std.proofs.Common.{sym, ◌∙◌}
use Rattle.rv_commands.proofs.Joining.{headed-as, opened-as}
use Rattle.rv_commands.proofs.join.open_part.Goals as goal

pub returns-clause-exact : goal.returns-clause-exact
returns-clause-exact c =
    opened-as c.args.parts c.args.number c.args.file.now c.behind.result.now c.in-Some.head c.open_behind.result (sym c.read_part.ensures ∙ c.in-Some.is) (sym c.is_head.ensures ∙ c.if-not-is_head.false) c.behind.ensures c.open_behind.ensures.exact

pub returns-clause-head : goal.returns-clause-head
returns-clause-head c = headed-as c.args.parts c.args.number c.in-Some.head c.open_behind.result (sym c.is_head.ensures ∙ c.if-not-is_head.false) c.open_behind.ensures.head
