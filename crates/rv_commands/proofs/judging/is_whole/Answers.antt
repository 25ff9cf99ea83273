use Rattle.std.proofs.Common.{arith}
use Rattle.rv_rules.proofs.Lemmas.{bytes-are}
use Rattle.rv_commands.proofs.judging.is_whole.Goals as goal

pub returns-in-Some-clause-bytes : goal.returns-in-Some-clause-bytes
returns-in-Some-clause-bytes c = bytes-are c.args.front.now (λ i. omega (arith, c.type_inv.front i))

pub returns-in-None-clause-bytes : goal.returns-in-None-clause-bytes
returns-in-None-clause-bytes c = bytes-are c.args.front.now (λ i. omega (arith, c.type_inv.front i))
