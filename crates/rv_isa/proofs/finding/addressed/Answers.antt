use Rattle.std.proofs.Common.{◌/◌, ◌^◌, ◌<◌, Option, sym, ◌∙◌, ap, subst}
use Rattle.rv_spec.specs.Words.{plus}
use Rattle.rv_spec.specs.Step.{register}
use Rattle.rv_spec.specs.Cells.{value}
use Rattle.rv_isa.specs.declared.operands.Address.{Address}
use Rattle.rv_mem.specs.Contents.{value_at}
use Rattle.rv_isa.specs.Operands.{word_at, IsBased}
use Rattle.rv_isa.proofs.Seeing.{word-cell, base-held}
use Rattle.rv_isa.proofs.finding.addressed.Goals as goal

pub returns-in-Some : goal.returns-in-Some
returns-in-Some c s is holds based low =
    let a = c.in-Some.address in
    let f = value_at c.args.cells.now in
    let small : a.base < 32 = subst IsBased c.in-Some.is based in
    let word : plus (register s a.base) a.offset / 4 < 2 ^ 30 = subst (λ (o : Option Address). word_at s o < 2 ^ 30) c.in-Some.is low in
    c.held.ensures ∙ ap (λ n. f (n / 4)) (c.byte_address.ensures ∙ ap (λ b. plus b a.offset) (base-held f s a.base small holds))
    ∙ holds (plus (register s a.base) a.offset / 4) (word-cell (plus (register s a.base) a.offset / 4) word)
    ∙ ap (λ (o : Option Address). value s (word_at s o)) (sym c.in-Some.is)
