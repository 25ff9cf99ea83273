-- The old value that a row has in a slot is what the state holds.
use Rattle.std.proofs.Common.{◌≡◌, ◌≢◌, ℕ, true, false, cond, ◌==◌, List, [], ◌∷◌, map, sym, ◌∙◌, ap, find, option_map, unwrap_or, Some, inl, inr}
use Rattle.std.proofs.lemmas.Bool.{ne_eqb, eq-eqb}
use Rattle.rv_base.specs.declared.record.Tuple.{Tuple}
use Rattle.rv_spec.specs.Step.{State}
use Rattle.rv_spec.specs.Cells.{value}
use Rattle.rv_spec.specs.Visits.{Use, visit}
use Rattle.rv_spec.specs.Trace.{access as row_access}
use Rattle.rv_rules.specs.RowRules.{old_in}
use Rattle.rv_rules.specs.Chain.{AllDiffer}
use Rattle.rv_rules.specs.Membership.{In}
use Rattle.rv_rules.proofs.ChainCore.{in-map}
use Rattle.rv_rules.proofs.Members.{all-in}

-- where the slots differ, the old value in a slot is what the state holds in the cell that the slot uses
pub seen-in : (before : List Tuple) (k : ℕ) (s t : State) (us : List Use) → AllDiffer (map (λ u. u.slot) us) → (u : Use) → In u us → old_in (map (row_access before k) (map (visit s t) us)) u.slot ≡ value s u.cell
seen-in before k s t [] d u m = absurd m
seen-in before k s t (w ∷ us) d u (inl same) =
    let is : (w.slot == u.slot) ≡ true = eq-eqb w.slot u.slot (ap (λ z. z.slot) (sym same)) in
    ap (λ b. unwrap_or (option_map (λ a. a.old) (cond b (Some (row_access before k (visit s t w))) (find (λ a. a.slot == u.slot) (map (row_access before k) (map (visit s t) us))))) 0) is
    ∙ ap (λ z. value s z.cell) (sym same)
seen-in before k s t (w ∷ us) d u (inr m) =
    let other : w.slot ≢ u.slot = all-in (λ y. w.slot ≢ y) (map (λ u. u.slot) us) d.0 u.slot (in-map (λ u. u.slot) u us m) in
    let is : (w.slot == u.slot) ≡ false = ne_eqb w.slot u.slot other in
    ap (λ b. unwrap_or (option_map (λ a. a.old) (cond b (Some (row_access before k (visit s t w))) (find (λ a. a.slot == u.slot) (map (row_access before k) (map (visit s t) us))))) 0) is
    ∙ seen-in before k s t us d.1 u m
