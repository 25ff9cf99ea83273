use Rattle.std.proofs.Common.{◌≡◌, ℤ, w32, to_z, of_z, refl, ap, ◌∙◌, arith}
use Rattle.std.proofs.lemmas.Int.{ints}
use Rattle.rv_gen.specs.Programs.{store_item, offset}
use Rattle.rv_gen.proofs.Binds.{binding}
use Rattle.rv_gen.proofs.items.store_item.Goals as goal

pub returns-clause-drawn : goal.returns-clause-drawn
unfolding store_item
returns-clause-drawn c =
    let same : to_z w32 (of_z w32 c.offset-imm.result) ≡ c.offset-imm.result = omega (arith, ints) in
    let imm = ap (λ (z : ℤ). (z, c.offset-imm.new.self.state)) same ∙ c.offset-imm.ensures.drawn ∙ ap (λ w. offset w c.pool-rs2.new.self.state) c.store_width.ensures.value in
    binding _ _ _ _ _ _ c.draw.ensures.drawn (binding _ _ _ _ _ _ c.pool-rs2.ensures.drawn (binding _ _ _ _ _ _ imm refl))
