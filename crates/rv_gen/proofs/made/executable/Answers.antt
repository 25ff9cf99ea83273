use Rattle.std.proofs.Common.{◌^◌, length, ap, arith}
use Rattle.rv_gen.proofs.Lengths.{length-words, all-below}
use Rattle.rv_gen.proofs.made.executable.Goals as goal

pub overflow_cast-len : goal.overflow_cast-len
overflow_cast-len c = omega (arith, ap length c.in_ok-bytes.ensures, length-words c.args.words.now)

pub write-requires-clause-in_memory : goal.write-requires-clause-in_memory
write-requires-clause-in_memory c = (omega (arith, ap length c.in_ok-bytes.ensures, length-words c.args.words.now), tt)

pub write-requires-clause-within_limit : goal.write-requires-clause-within_limit
write-requires-clause-within_limit c = omega (arith, ap length c.in_ok-bytes.ensures, length-words c.args.words.now)

pub returns-clause-numbers : goal.returns-clause-numbers
returns-clause-numbers c = all-below (2 ^ 32) c.args.words.now (λ i. let h = c.type_inv.words i in omega arith)
