-- The verdict on parts, one part after another.
use Rattle.std.proofs.Common.{◌≡◌, ℕ, zero, suc, ◌+◌, ◌<◌, ◌≤◌, Bool, List, [], ◌∷◌, length, get_or, drop, Option, None, Some, refl, sym, ap, ◌∙◌, arith}
use Rattle.std.proofs.lemmas.List.{drop_more}
use Rattle.rv_base.specs.declared.record.Header.{Header}
use Rattle.rv_base.specs.declared.record.Place.{Place}
use Rattle.rv_base.specs.declared.record.Refusal.{Refusal}
use Rattle.rv_base.specs.declared.record.Verdict.{Verdict}
use Rattle.rv_base.specs.declared.record.Verdict.TheVariants.{Refuse}
use Rattle.rv_rules.specs.Sums.{add_lanes}
use Rattle.rv_judge.specs.Alone.{ended}
use Rattle.rv_parts.specs.declared.summaries.Summary.{Summary}
use Rattle.rv_parts.specs.Combining.{combined_from, refused_at, unless_refused}

module _ (h : Header) (place : Place) (reads writes : List ℕ) (entries : ℕ) (trailing : Bool) where
  abbrev from : List Summary → Verdict
  from xs = combined_from h place reads writes entries trailing xs

  abbrev behind : Summary → List Summary → Verdict
  behind x xs = combined_from h x.after (add_lanes reads x.reads.lanes) (add_lanes writes x.writes.lanes) x.entries x.trailing xs

  abbrev answer : Summary → Option Refusal
  answer x = refused_at x.first place x.before x.refusal

  pub part-then : (x : Summary) (xs : List Summary) → from (x ∷ xs) ≡ unless_refused (answer x) (behind x xs)
  unfolding combined_from
  part-then x xs = refl

  pub no-part : from [] ≡ ended h place (record { reads = reads; writes = writes }) entries trailing
  unfolding combined_from
  no-part = refl

  pub part-refused : (x : Summary) (xs : List Summary) (r : Refusal) → answer x ≡ Some r → from (x ∷ xs) ≡ Refuse r
  part-refused x xs r e = part-then x xs ∙ ap (λ o. unless_refused o (behind x xs)) e

  pub part-goes : (x : Summary) (xs : List Summary) → answer x ≡ None → from (x ∷ xs) ≡ behind x xs
  part-goes x xs e = part-then x xs ∙ ap (λ o. unless_refused o (behind x xs)) e

  -- ---- at a place of a list

  pub refused-here : (xs : List Summary) (i : ℕ) (d : Summary) (r : Refusal) → i < length xs → answer (get_or xs i d) ≡ Some r → from (drop i xs) ≡ Refuse r
  refused-here xs i d r lt e = ap from (drop_more xs i d lt) ∙ part-refused (get_or xs i d) (drop (i + 1) xs) r e

  pub goes-here : (xs : List Summary) (i : ℕ) (d : Summary) (new_reads new_writes : List ℕ) → i < length xs → answer (get_or xs i d) ≡ None
      → new_reads ≡ add_lanes reads (get_or xs i d).reads.lanes → new_writes ≡ add_lanes writes (get_or xs i d).writes.lanes
      → from (drop i xs) ≡ combined_from h (get_or xs i d).after new_reads new_writes (get_or xs i d).entries (get_or xs i d).trailing (drop (i + 1) xs)
  goes-here xs i d new_reads new_writes lt e reads_are writes_are =
      let x = get_or xs i d in
      let rs = sym reads_are in
      let ws = sym writes_are in
      ap from (drop_more xs i d lt)
      ∙ part-goes x (drop (i + 1) xs) e
      ∙ (λ t. combined_from h x.after (rs t) (ws t) x.entries x.trailing (drop (i + 1) xs))

  pub end-here : (xs : List Summary) (i : ℕ) → length xs ≤ i → from (drop i xs) ≡ ended h place (record { reads = reads; writes = writes }) entries trailing
  end-here xs i le = ap from (none xs i le) ∙ no-part
    where
      none : (ys : List Summary) (k : ℕ) → length ys ≤ k → drop k ys ≡ []
      none [] k le = nothing k
        where
          nothing : (j : ℕ) → drop {A = Summary} j [] ≡ []
          nothing zero = refl
          nothing (suc j) = refl
      none (y ∷ ys) zero le = absurd (omega (arith, le))
      none (y ∷ ys) (suc k) le = none ys k (omega (arith, le))
