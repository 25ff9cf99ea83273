use Rattle.std.proofs.Common.{◌≡◌, ℤ, pos, List, [], ◌∷◌, w32, to_z, of_z, subst, ◌∙◌, arith}
use Rattle.std.proofs.lemmas.Int.{ints}
use Rattle.rv_base.specs.declared.instr.Instr.{Instr}
use Rattle.rv_base.specs.declared.instr.Instr.TheVariants as instr
use Rattle.rv_base.specs.declared.instr.Cond.TheVariants as cond
use Rattle.rv_gen.specs.Words.{Adds}
use Rattle.rv_gen.specs.Programs.{back}
use Rattle.rv_gen.proofs.Binds.{on-ok, adds-6}
use Rattle.rv_gen.proofs.words.push_back.Goals as goal

pub returns : goal.returns
returns c =
    let n = c.args.body in
    let fence = instr.Fence 0 0 (pos 0) in
    let branch : ℤ → Instr = λ (z : ℤ). instr.Branch cond.Ne 9 0 z in
    let old = c.args.code.now.items in
    let off : to_z w32 (of_z w32 c.loop_offset.result) ≡ c.loop_offset.result = omega (arith, ints) in
    let back_to = off ∙ c.loop_offset.ensures.value in
    let z = to_z w32 (of_z w32 c.loop_offset.result) in
    let is = fence ∷ c.add_immediate.result ∷ branch z ∷ c.load_immediate.result ∷ c.load_immediate-2.result ∷ instr.Ecall ∷ [] in
    let same : is ≡ back n = (λ i. fence ∷ c.add_immediate.ensures.value i ∷ branch (back_to i) ∷ c.load_immediate.ensures.value i ∷ c.load_immediate-2.ensures.value i ∷ instr.Ecall ∷ []) in
    on-ok c.push-6.result (λ last. subst (λ (l : List Instr). Adds l old c.push-6.new.code.items) same (adds-6 fence c.add_immediate.result (branch z) c.load_immediate.result c.load_immediate-2.result instr.Ecall old _ _ _ _ _ _ c.in_ok-push.ensures c.in_ok-push-2.ensures c.in_ok-push-3.ensures c.in_ok-push-4.ensures c.in_ok-push-5.ensures last)) c.push-6.ensures
