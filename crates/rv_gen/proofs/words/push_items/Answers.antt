use Rattle.std.proofs.Common.{◌≡◌, suc, ◌+◌, ◌-◌, refl, sym, subst, arith}
use Rattle.std.proofs.lemmas.List.{append-nil}
use Rattle.rv_gen.specs.Words.{decoded, AddsDrawn}
use Rattle.rv_gen.specs.Programs.{item, items}
use Rattle.rv_gen.proofs.Binds.{draws-more}
use Rattle.rv_gen.proofs.words.push_items.Goals as goal

pub loop-preserved : goal.loop-preserved
unfolding items
loop-preserved c t new h =
    let more : 32 - c.loop.counter ≡ suc (32 - (c.loop.counter + 1)) = omega arith in
    c.loop.invariant t new (subst (λ k. AddsDrawn (items k) c.loop.draws.state t c.loop.code.items new) (sym more) (draws-more item (items (32 - (c.loop.counter + 1))) c.loop.draws.state _ t c.loop.code.items _ new c.in_ok-push_item.ensures h))

pub returns : goal.returns
unfolding items
returns c =
    let none : 32 - c.loop.counter ≡ 0 = omega arith in
    c.loop.invariant c.loop.draws.state c.loop.code.items (subst (λ k. AddsDrawn (items k) c.loop.draws.state c.loop.draws.state c.loop.code.items c.loop.code.items) (sym none) (sym (append-nil (decoded c.loop.code.items)), refl))
