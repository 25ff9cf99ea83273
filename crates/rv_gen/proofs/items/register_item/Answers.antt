use Rattle.std.proofs.Common.{refl}
use Rattle.rv_gen.proofs.Binds.{binding}
use Rattle.rv_gen.specs.Programs.{register_item}
use Rattle.rv_gen.proofs.items.register_item.Goals as goal

pub returns-clause-drawn : goal.returns-clause-drawn
unfolding register_item
returns-clause-drawn c = binding _ _ _ _ _ _ c.draw.ensures.drawn (binding _ _ _ _ _ _ c.pool-rd.ensures.drawn (binding _ _ _ _ _ _ c.pool-rs1.ensures.drawn (binding _ _ _ _ _ _ c.pool-rs2.ensures.drawn (refl))))
