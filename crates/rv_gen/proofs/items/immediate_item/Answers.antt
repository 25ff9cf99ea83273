use Rattle.std.proofs.Common.{◌≡◌, ℤ, w32, to_z, of_z, refl, ap, ◌∙◌, arith}
use Rattle.std.proofs.lemmas.Int.{ints}
use Rattle.rv_gen.specs.Programs.{immediate_item}
use Rattle.rv_gen.proofs.Binds.{binding}
use Rattle.rv_gen.proofs.items.immediate_item.Goals as goal

pub returns-clause-drawn : goal.returns-clause-drawn
unfolding immediate_item
returns-clause-drawn c =
    let same : to_z w32 (of_z w32 c.small-imm.result) ≡ c.small-imm.result = omega (arith, ints) in
    let imm = ap (λ (z : ℤ). (z, c.small-imm.new.self.state)) same ∙ c.small-imm.ensures.drawn in
    binding _ _ _ _ _ _ c.draw.ensures.drawn (binding _ _ _ _ _ _ c.pool-rd.ensures.drawn (binding _ _ _ _ _ _ c.pool-rs1.ensures.drawn (binding _ _ _ _ _ _ imm refl)))
