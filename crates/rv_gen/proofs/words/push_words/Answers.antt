use Rattle.std.proofs.Common.{◌≡◌, suc, ◌+◌, ◌-◌, refl, sym, subst, arith}
use Rattle.std.proofs.lemmas.List.{append-nil}
use Rattle.rv_gen.specs.Words.{decoded, AddsDrawn}
use Rattle.rv_gen.specs.Programs.{word, filled}
use Rattle.rv_gen.proofs.Binds.{draws-more}
use Rattle.rv_gen.proofs.words.push_words.Goals as goal

pub loop-r-preserved : goal.loop-r-preserved
unfolding filled
loop-r-preserved c t new h =
    let r = c.loop-r.r in
    let more : 28 - r ≡ suc (28 - (r + 1)) = omega arith in
    c.loop-r.invariant t new (subst (λ k. AddsDrawn (filled k r) c.loop-r.draws.state t c.loop-r.code.items new) (sym more) (draws-more (word r) (filled (28 - (r + 1)) (r + 1)) c.loop-r.draws.state _ t c.loop-r.code.items _ new c.in_ok-push_word.ensures h))

pub returns : goal.returns
unfolding filled
returns c =
    let none : 28 - c.loop-r.r ≡ 0 = omega arith in
    c.loop-r.invariant c.loop-r.draws.state c.loop-r.code.items (subst (λ k. AddsDrawn (filled k c.loop-r.r) c.loop-r.draws.state c.loop-r.draws.state c.loop-r.code.items c.loop-r.code.items) (sym none) (sym (append-nil (decoded c.loop-r.code.items)), refl))
