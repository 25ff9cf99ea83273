use Rattle.std.proofs.Common.{◌≡◌, ◌*◌, ◌%◌, ℤ, [], ◌∷◌, w32, to_z, of_z, ap, ◌∙◌, arith}
use Rattle.std.proofs.lemmas.Int.{ints}
use Rattle.rv_base.specs.declared.instr.Instr.TheVariants as instr
use Rattle.rv_base.specs.declared.instr.Op.TheVariants as op
use Rattle.rv_gen.specs.Programs.{word}
use Rattle.rv_gen.proofs.Binds.{binding, on-ok, adds-more, adds-pair}
use Rattle.rv_gen.proofs.words.push_word.Goals as goal

pub returns : goal.returns
unfolding word
returns c =
    let r = c.args.r in
    let low : to_z w32 (of_z w32 c.small-low.result) ≡ c.small-low.result = omega (arith, ints) in
    let high : c.draw-upper.result * 4096 % 4294967296 ≡ c.draw-upper.result * 4096 = omega arith in
    let e2 = c.add_immediate.ensures.value ∙ ap (λ (z : ℤ). instr.OpImm op.Add r r z) low in
    let upper = instr.Lui r (c.draw-upper.result * 4096 % 4294967296) in
    on-ok c.push-2.result (λ last.
    adds-pair _ (upper ∷ c.add_immediate.result ∷ []) c.small-low.new.self.state c.args.code.now.items c.push-2.new.code.items
    (binding _ _ _ _ _ _ c.draw-upper.ensures.drawn (binding _ _ _ _ _ _ c.small-low.ensures.drawn (λ i. (instr.Lui r (high i) ∷ e2 i ∷ [], c.small-low.new.self.state))))
    (adds-more (upper ∷ []) (c.add_immediate.result ∷ []) _ _ _ c.in_ok-push.ensures last)) c.push-2.ensures
