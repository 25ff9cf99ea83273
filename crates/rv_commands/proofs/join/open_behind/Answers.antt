use Rattle.rv_commands.proofs.Joining.{behind-opened, behind-unopened}
use Rattle.rv_commands.proofs.join.open_behind.Goals as goal

pub returns-in_default-clause-exact : goal.returns-in_default-clause-exact
returns-in_default-clause-exact c = behind-unopened c.args.head c.args.bytes.now c.in_default.ensures

pub returns-clause-exact : goal.returns-clause-exact
returns-clause-exact c = behind-opened c.args.head c.args.bytes.now c.behind-body.result.now c.in-Some.front c.in-Some.ensures c.behind-body.ensures
