use Rattle.std.proofs.Common.{◌∙◌, [], Result, ap, sym, subst}
use Rattle.rv_base.specs.declared.record.Refusal.{Refusal}
use Rattle.rv_judge.specs.Held.{Held, IsState, comes, state_of}
use Rattle.rv_judge.specs.declared.held.Reading.{Reading}
use Rattle.rv_judge.proofs.WholeFile.{only-short}
use Rattle.rv_judge.proofs.pieces.Judge.refused.Goals as goal

pub returns-in-Ok-clause-only : goal.returns-in-Ok-clause-only
returns-in-Ok-clause-only g c = λ r e not.
    let lanes = g.L.Lanes.lanes in
    let is = subst (λ (z : Result Reading Refusal). IsState lanes z) c.in-Ok.is c.self.invariant in
    absurd (not (only-short lanes c.in-Ok.field-0 r is (ap (λ (z : Result Reading Refusal). comes lanes (state_of lanes z) []) (sym c.in-Ok.is) ∙ ap (λ (z : Result Held Refusal). comes lanes z []) c.self.view_is ∙ e)))
