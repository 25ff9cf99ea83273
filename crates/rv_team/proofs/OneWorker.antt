-- The book of one worker, which enters its pieces one after another.
use Rattle.std.proofs.Common.{◌≡◌, ℕ, zero, suc, ◌+◌, ◌≤◌, false, ◌||◌, List, [], ◌∷◌, ◌++◌, map, sym, refl, ap, ◌∙◌, arith}
use Rattle.std.specs.Prelude.{◌==◌}
use Rattle.std.specs.List.{range_with_len}
use Rattle.std.proofs.lemmas.Bool.Decides.{nat_tests}
use Rattle.std.proofs.lemmas.List.{map-append}
use Rattle.rv_book.specs.declared.entry.Deposited.{Deposited}
use Rattle.rv_book.specs.declared.task.Piece.{Piece}
use Rattle.rv_book.specs.Journal.{BookState, IsDeposit, entry, indices, is_entered, with_entry}
use Rattle.rv_book.proofs.Lemmas.{enters-new, range-snoc}

abbrev alone : List Piece → ℕ → BookState
alone ps i = record { pieces = ps; journal = map (entry 0) (range_with_len 0 i) }

not-yet : (a n j : ℕ) → a + n ≤ j → is_entered j (map (entry 0) (range_with_len a n)) ≡ false
not-yet a zero j le = refl
not-yet a (suc n) j le =
    let apart : (a == j) ≡ false = grind (arith, nat_tests) in
    ap (λ t. t || is_entered j (map (entry 0) (range_with_len (a + 1) n))) apart ∙ not-yet (a + 1) n j (omega (arith, le))

pub indices-alone : (is : List ℕ) → indices (map (entry 0) is) ≡ is
indices-alone [] = refl
indices-alone (i ∷ is) = ap (λ ks. i ∷ ks) (indices-alone is)

pub alone-more : (ps : List Piece) (i j : ℕ) (b c : BookState) (r : Deposited) → b ≡ alone ps i → IsDeposit b 0 j r c → j ≡ i → c ≡ alone ps (i + 1)
alone-more ps i j b c r is d at =
    let new : is_entered j b.journal ≡ false = ap (λ (s : BookState). is_entered j s.journal) is ∙ not-yet 0 i j (omega (arith, at)) in
    enters-new b c 0 j r d new ∙ ap (λ (s : BookState). with_entry s 0 j) is
    ∙ ap (λ k. let s : BookState = record { pieces = ps; journal = map (entry 0) (range_with_len 0 i) ++ entry 0 k ∷ [] } in s) at
    ∙ ap (λ es. let s : BookState = record { pieces = ps; journal = es } in s) (sym (ap (map (entry 0)) (range-snoc 0 i i (omega arith)) ∙ map-append (entry 0) (range_with_len 0 i) (i ∷ [])))

pub journal-at : (ps : List Piece) (i n : ℕ) (b : BookState) → b ≡ alone ps i → i ≡ n → b.journal ≡ map (entry 0) (range_with_len 0 n)
journal-at ps i n b is at = ap (λ (s : BookState). s.journal) is ∙ ap (λ k. map (entry 0) (range_with_len 0 k)) at
