use Rattle.std.proofs.Common.{ap, arith}
use Rattle.rv_pipe.specs.declared.view.Hand.{Hand}
use Rattle.rv_pipe.proofs.Moves.{takes, accounts}
use Rattle.rv_pipe.proofs.piped.drain.Goals as goal

pub pop_as-requires-clause-rule : goal.pop_as-requires-clause-rule
pop_as-requires-clause-rule g c =
    let known = c.loop.invariant.1.known in
    (takes _ _ _ _ (omega (arith, ap (λ (v : Hand). v.parts) known)), accounts _ _ _ _ (ap (λ (v : Hand). v.walks) known) (ap (λ (v : Hand). v.parts) known))
