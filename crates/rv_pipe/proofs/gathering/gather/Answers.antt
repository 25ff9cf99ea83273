use Rattle.rv_pipe.proofs.Moves.{merges}
use Rattle.rv_pipe.proofs.gathering.gather.Goals as goal

pub absorb-requires-clause-rule : goal.absorb-requires-clause-rule
absorb-requires-clause-rule g c = merges _ _ _ _ _ _
