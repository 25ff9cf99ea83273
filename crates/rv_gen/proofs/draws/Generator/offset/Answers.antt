use Rattle.std.proofs.Common.{ℤ, ap, arith}
use Rattle.rv_gen.proofs.Binds.{binding}
use Rattle.std.proofs.lemmas.Int.{ints}
use Rattle.rv_gen.specs.Programs.{offset}
use Rattle.rv_gen.proofs.draws.Generator.offset.Goals as goal

pub returns-clause-drawn : goal.returns-clause-drawn
unfolding offset
returns-clause-drawn c = binding _ _ _ _ _ _ c.draw-offset.ensures.drawn (ap (λ (z : ℤ). (z, c.draw-offset.new.self.state)) (omega (arith, ints)))
