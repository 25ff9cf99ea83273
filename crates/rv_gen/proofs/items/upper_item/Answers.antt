use Rattle.std.proofs.Common.{ℕ, ap, arith}
use Rattle.rv_gen.proofs.Binds.{binding}
use Rattle.rv_base.specs.declared.instr.Instr.TheVariants.{Lui}
use Rattle.rv_gen.specs.Programs.{upper_item}
use Rattle.rv_gen.proofs.items.upper_item.Goals as goal

pub returns-clause-drawn : goal.returns-clause-drawn
unfolding upper_item
returns-clause-drawn c = binding _ _ _ _ _ _ c.pool-rd.ensures.drawn (binding _ _ _ _ _ _ c.draw-upper.ensures.drawn (ap (λ (n : ℕ). (Lui c.pool-rd.result n, c.draw-upper.new.self.state)) (omega arith)))
