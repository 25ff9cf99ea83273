use Rattle.std.proofs.Common.{◌≡◌, ℕ, suc, ◌+◌, ◌-◌, List, [], ◌∷◌, ◌++◌, refl, sym, ap, ◌∙◌, append_assoc, arith}
use Rattle.std.proofs.lemmas.List.{append-nil}
use Rattle.rv_gen.specs.Draws.{bytes}
use Rattle.rv_gen.proofs.Binds.{binding}
use Rattle.rv_gen.proofs.made.input.Goals as goal

pub loop-preserved : goal.loop-preserved
unfolding bytes
loop-preserved c rest t h =
    let more : 256 - c.loop.counter ≡ suc (256 - (c.loop.counter + 1)) = omega arith in
    let d = c.draw.result in
    let next : (d ∷ rest, t) ≡ bytes (256 - c.loop.counter) c.loop.draws.state =
    binding _ _ _ _ _ _ c.draw.ensures.drawn (binding _ _ _ _ _ _ h refl) ∙ ap (λ k. bytes k c.loop.draws.state) (sym more) in
    ap (λ (l : List ℕ). (l ++ rest, t)) c.in_ok-push.ensures.items ∙ ap (λ (l : List ℕ). (l, t)) (append_assoc c.loop.input.items (d ∷ []) rest) ∙ c.loop.invariant (d ∷ rest) t next

pub returns : goal.returns
unfolding bytes
returns c =
    let none : 256 - c.loop.counter ≡ 0 = omega arith in
    ap (λ (l : List ℕ). (l, c.loop.draws.state)) (sym (append-nil c.loop.input.items)) ∙ c.loop.invariant [] c.loop.draws.state (sym (ap (λ k. bytes k c.loop.draws.state) none))
