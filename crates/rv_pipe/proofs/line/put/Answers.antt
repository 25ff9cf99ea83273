use Rattle.std.proofs.Common.{ap, arith}
use Rattle.rv_pipe.specs.declared.view.Hand.{Hand}
use Rattle.rv_pipe.proofs.Moves.{pushes, takes}
use Rattle.rv_pipe.proofs.line.put.Goals as goal

pub push_as-requires-clause-rule : goal.push_as-requires-clause-rule
push_as-requires-clause-rule g c = (pushes _ _ _ _ _ _ c.requires.walks.0 c.requires.walks.1 c.requires.next.0 c.requires.next.1 c.requires.waiting, λ items views k at. tt)

pub pop_as-front-requires-clause-rule : goal.pop_as-front-requires-clause-rule
pop_as-front-requires-clause-rule g c = (takes _ _ _ _ (omega (arith, ap (λ (v : Hand). v.parts) c.in-Err.ensures.rule.1, c.requires.walks.1)), λ items views k at. tt)
