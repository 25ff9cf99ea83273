use Rattle.std.proofs.Common.{ap, arith}
use Rattle.rv_pipe.specs.declared.view.Hand.{Hand}
use Rattle.rv_pipe.proofs.Moves.{takes}
use Rattle.rv_pipe.proofs.working.work_one.Goals as goal

pub pop_as-requires-clause-rule : goal.pop_as-requires-clause-rule
pop_as-requires-clause-rule g c = (takes _ _ _ _ (omega (arith, ap (λ (v : Hand). v.parts) c.loop.invariant.1.known, c.requires.parts)), λ items views k at. tt)
