use Rattle.std.proofs.Common.{ℤ, ap, arith}
use Rattle.rv_gen.proofs.Binds.{binding}
use Rattle.std.proofs.lemmas.Int.{ints}
use Rattle.rv_gen.specs.Programs.{small}
use Rattle.rv_gen.proofs.draws.Generator.small.Goals as goal

pub returns-clause-drawn : goal.returns-clause-drawn
unfolding small
returns-clause-drawn c = binding _ _ _ _ _ _ c.draw.ensures.drawn (ap (λ (z : ℤ). (z, c.draw.new.self.state)) (omega (arith, ints)))
