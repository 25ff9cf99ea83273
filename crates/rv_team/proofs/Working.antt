-- What workers give back, over plain lists.
use Rattle.std.proofs.Common.{◌≡◌, ◌≢◌, ℕ, zero, suc, ◌+◌, ◌<◌, Bool, true, false, List, [], ◌∷◌, ◌++◌, length, sym, refl, ap, ◌∙◌, subst, arith}
use Rattle.std.specs.Prelude.{slice_index_or, ◌==◌}
use Rattle.std.proofs.lemmas.Bool.Decides.{nat_tests}
use Rattle.std.proofs.Common.{length-append}
use Rattle.rv_claim.specs.declared.pass.Pass.{Pass}
use Rattle.rv_team.specs.Work.{IsDone, AreDone}

-- a list with one element more
module _ {X : Type 0} where
  first-same : (xs : List X) (y d : X) (k : ℕ) → k < length xs → slice_index_or (xs ++ y ∷ []) k d ≡ slice_index_or xs k d
  first-same [] y d k lt = absurd (omega (arith, lt))
  first-same (x ∷ xs) y d zero lt = refl
  first-same (x ∷ xs) y d (suc k) lt = first-same xs y d k (omega (arith, lt))

  last-is : (xs : List X) (y d : X) → slice_index_or (xs ++ y ∷ []) (length xs) d ≡ y
  last-is [] y d = refl
  last-is (x ∷ xs) y d = last-is xs y d

-- the passes of several workers, with that of one more
pub done-more : (ps rest : List Pass) (last q : Pass) (qs done : List Pass) → ps ≡ rest ++ last ∷ [] → AreDone rest done → IsDone last q → qs ≡ done ++ q ∷ [] → AreDone ps qs
done-more ps rest last q qs done ep r d eq = subst (λ us. AreDone us qs) (sym ep) (subst (λ us. AreDone (rest ++ last ∷ []) us) (sym eq) (
  length-append done (q ∷ []) ∙ ap (λ n. n + 1) r.0 ∙ sym (length-append rest (last ∷ [])),
  λ k z lt. at k z (k == length rest) refl (omega (arith, lt, length-append rest (last ∷ []))),
))
  where
    at : (k : ℕ) (z : Pass) (t : Bool) → (k == length rest) ≡ t → k < length rest + 1 → IsDone (slice_index_or (rest ++ last ∷ []) k z) (slice_index_or (done ++ q ∷ []) k z)
    at k z true e lt =
        let here : k ≡ length rest = grind (arith, nat_tests) in
        let there : k ≡ length done = omega (arith, here, r.0) in
        subst (λ u. IsDone u (slice_index_or (done ++ q ∷ []) k z)) (sym (ap (λ j. slice_index_or (rest ++ last ∷ []) j z) here ∙ last-is rest last z))
        (subst (λ u. IsDone last u) (sym (ap (λ j. slice_index_or (done ++ q ∷ []) j z) there ∙ last-is done q z)) d)
    at k z false e lt =
        let before : k < length rest = (let far : k ≢ length rest = grind (arith, nat_tests) in omega (arith, far, lt)) in
        subst (λ u. IsDone u (slice_index_or (done ++ q ∷ []) k z)) (sym (first-same rest last z k before))
        (subst (λ u. IsDone (slice_index_or rest k z) u) (sym (first-same done q z k (omega (arith, before, r.0)))) (r.1 k z before))
