use Rattle.std.proofs.Common.{◌≡◌, rules, refl}
use Rattle.std.proofs.lemmas.Iterator.{YieldsList-from_slice, YieldsList-from_map}
use Rattle.rv_base.specs.declared.record.Access.{Access}
use Rattle.rv_base.specs.declared.record.Touch.{Touch}
use Rattle.rv_rowcheck.proofs.Compared.{eq-from-yields-List}
use Rattle.rv_rowcheck.proofs.agreeing.cells_agree.Goals as goal

pub returns : goal.returns
returns c =
    eq-from-yields-List (λ x y. y ≡ x) _ _ c.eq.ensures.ran
    (YieldsList-from_map _ (λ (a : Access). a.cell) (YieldsList-from_slice c.args.accesses.now (cc)) c.map.ensures.closure (λ x r q k. search rules))
    (λ it e. YieldsList-from_map _ (λ (t : Touch). t.cell) (YieldsList-from_slice c.args.touches.now (cc)) (cc) (λ x r q k. search rules))
    (λ x y. refl)
