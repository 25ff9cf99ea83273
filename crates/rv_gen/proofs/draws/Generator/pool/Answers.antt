use Rattle.std.proofs.Common.{refl}
use Rattle.rv_gen.proofs.Binds.{binding}
use Rattle.rv_gen.specs.Programs.{pool}
use Rattle.rv_gen.proofs.draws.Generator.pool.Goals as goal

pub returns-clause-drawn : goal.returns-clause-drawn
unfolding pool
returns-clause-drawn c = binding _ _ _ _ _ _ c.draw.ensures.drawn (refl)
