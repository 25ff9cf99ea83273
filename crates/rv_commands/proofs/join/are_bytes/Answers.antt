use Rattle.std.proofs.Common.{arith}
use Rattle.rv_rules.proofs.Lemmas.{bytes-are}
use Rattle.rv_commands.proofs.join.are_bytes.Goals as goal

pub returns : goal.returns
returns c = bytes-are c.args.bytes.now (λ i. omega (arith, c.type_inv.bytes i))
