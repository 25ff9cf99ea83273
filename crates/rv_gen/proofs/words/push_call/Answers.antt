use Rattle.std.proofs.Common.{◌≡◌, ◌+◌, ℤ, pos, [], ◌∷◌, w32, to_z, ap, ◌∙◌, arith}
use Rattle.std.proofs.lemmas.Int.{ints}
use Rattle.rv_base.specs.declared.instr.Instr.TheVariants as instr
use Rattle.rv_base.specs.declared.instr.Op.TheVariants as op
use Rattle.rv_gen.specs.Programs.{li, call_item}
use Rattle.rv_gen.proofs.Binds.{binding, adds-5, adds-pair}
use Rattle.rv_gen.proofs.words.push_call.Goals as goal

pub returns : goal.returns
unfolding call_item
returns c =
    let o = c.draw-call.result in
    let f = c.draw-at.result in
    let number : to_z w32 (63 + o) ≡ pos (63 + o) = omega (arith, ints) in
    let descriptor : to_z w32 o ≡ pos o = omega (arith, ints) in
    let place : to_z w32 f ≡ pos f = omega (arith, ints) in
    let e1 = c.load_immediate.ensures.value ∙ ap (λ (z : ℤ). li 17 z) number in
    let e2 = c.load_immediate-2.ensures.value ∙ ap (λ (z : ℤ). li 10 z) descriptor in
    let e3 = c.add_immediate.ensures.value ∙ ap (λ (z : ℤ). instr.OpImm op.Add 11 8 z) place in
    let e4 = c.load_immediate-3.ensures.value in
    let is = c.load_immediate.result ∷ c.load_immediate-2.result ∷ c.add_immediate.result ∷ c.load_immediate-3.result ∷ instr.Ecall ∷ [] in
    adds-pair _ is c.draw-at.new.self.state c.args.code.now.items c.push-5.new.code.items
    (binding _ _ _ _ _ _ c.draw-call.ensures.drawn (binding _ _ _ _ _ _ c.draw-at.ensures.drawn (λ i. (e1 i ∷ e2 i ∷ e3 i ∷ e4 i ∷ instr.Ecall ∷ [], c.draw-at.new.self.state))))
    (adds-5 c.load_immediate.result c.load_immediate-2.result c.add_immediate.result c.load_immediate-3.result instr.Ecall c.args.code.now.items _ _ _ _ _ c.in_ok-push.ensures c.in_ok-push-2.ensures c.in_ok-push-3.ensures c.in_ok-push-4.ensures c.in_ok-push-5.ensures)
