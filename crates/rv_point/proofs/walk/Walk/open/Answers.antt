use Rattle.std.proofs.Common.{refl, sym, ◌∙◌, subst, arith}
use Rattle.rv_spec.specs.Words.{AreBytes}
use Rattle.rv_spec.specs.Elf.{Image}
use Rattle.rv_spec.specs.Step.{start}
use Rattle.rv_rules.proofs.Lemmas.{bytes-are}
use Rattle.rv_isa.specs.HartState.{StandsFor}
use Rattle.rv_point.proofs.WalkLaws.{walk-opened}
use Rattle.rv_point.proofs.walk.Walk.open.Goals as goal

pub invariant_of-result : goal.invariant_of-result
invariant_of-result c =
    let bytes : AreBytes c.args.input.now = bytes-are c.args.input.now (λ i. omega (arith, c.type_inv.input i)) in
    walk-opened _ c.args.image.now c.copy-image.ensures.program (subst AreBytes (sym c.start.ensures.input) bytes) (c.start.ensures.image ∙ c.copy-image.ensures.same)
    (subst (λ (i : Image). StandsFor c.start.result (start i)) c.copy-image.ensures.same c.start.ensures.stands) c.start.ensures.timed c.new.ensures.items refl refl refl refl c.requires.size c.requires.budget
