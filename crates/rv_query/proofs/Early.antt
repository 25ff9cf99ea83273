-- Accesses before a step are of rows before it.
use Rattle.std.proofs.Common.{◌≡◌, ℕ, ◌+◌, ◌≤◌, cond, List, [], ◌∷◌, ◌++◌, length, map, take, drop, filter, refl, sym, ap, ◌∙◌, inl, inr, append-nil, arith}
use Rattle.std.proofs.lemmas.List.{take-append-drop, take_all, length-take-le}
use Rattle.std.proofs.lemmas.List.Elements.{filter-append}
use Rattle.std.proofs.lemmas.Bool.{cases_lt}
use Rattle.rv_base.specs.declared.record.Access.{Access}
use Rattle.rv_spec.specs.Elf.{Image}
use Rattle.rv_spec.specs.Cells.{initial_value}
use Rattle.rv_spec.specs.Trace.{Row}
use Rattle.rv_query.specs.Accesses.{Numbered, numbered, accesses_before, latest}
use Rattle.rv_query.specs.Questions.{cell_seen}
use Rattle.rv_query.specs.Following.{trail}
use Rattle.rv_query.specs.declared.questions.CellSeen.{CellSeen}
use Rattle.rv_query.specs.declared.trail.Trail.{Trail}
use Rattle.rv_query.proofs.Latest.{counts, changes}
use Rattle.rv_query.proofs.Trails.{shown, uncounted}
use Rattle.rv_query.proofs.Rows.{of_row, numbered-append}

module _ (c s : ℕ) where
  late-accesses : (k : ℕ) (xs : List Access) → s ≤ k → filter (counts c s) (map (λ a. record { step = k; access = a }) xs) ≡ []
  late-accesses k [] late = refl
  late-accesses k (x ∷ xs) late =
      let a : Numbered = record { step = k; access = x } in
      ap (λ b. cond b (a ∷ filter (counts c s) (map (λ y. record { step = k; access = y }) xs)) (filter (counts c s) (map (λ y. record { step = k; access = y }) xs)))
      (uncounted c s a (λ cell early. omega (arith, early, late))) ∙ late-accesses k xs late

  late-rows : (k : ℕ) (rs : List Row) → s ≤ k → filter (counts c s) (numbered k rs) ≡ []
  late-rows k [] late = refl
  late-rows k (r ∷ rs) late =
      filter-append (counts c s) (of_row k r) (numbered (k + 1) rs)
      ∙ ap (λ l. l ++ filter (counts c s) (numbered (k + 1) rs)) (late-accesses k r.accesses late)
      ∙ late-rows (k + 1) rs (omega (arith, late))

  -- the rows from the step on count for nothing
  pub only-early : (rs : List Row) → accesses_before (numbered 0 rs) c s ≡ accesses_before (numbered 0 (take s rs)) c s
  only-early rs = elim (cases_lt (length rs) s) [
    | inl short ↦ ap (λ l. accesses_before (numbered 0 l) c s) (sym (take_all s rs (omega (arith, short))))
    | inr long ↦
        let place : 0 + length (take s rs) ≡ s = omega (arith, length-take-le s rs long) in
        ap (λ l. filter (counts c s) (numbered 0 l)) (sym (take-append-drop s rs))
        ∙ ap (filter (counts c s)) (numbered-append 0 (take s rs) (drop s rs))
        ∙ filter-append (counts c s) (numbered 0 (take s rs)) (numbered (0 + length (take s rs)) (drop s rs))
        ∙ ap (λ l. filter (counts c s) (numbered 0 (take s rs)) ++ l) (late-rows (0 + length (take s rs)) (drop s rs) (omega (arith, place)))
        ∙ append-nil (filter (counts c s) (numbered 0 (take s rs)))
  ]

-- what a trail shows
abbrev pub of_trail : Trail → CellSeen
of_trail t = record { value = t.value; time = t.time; changed = t.changed }

pub seen-early : (i : Image) (rs : List Row) (c s : ℕ) → cell_seen i rs c s ≡ of_trail (trail (initial_value i c) (numbered 0 (take s rs)) c s)
unfolding cell_seen trail
seen-early i rs c s = ap (λ l. of_trail (shown (initial_value i c) (latest l) (latest (filter changes l)))) (only-early c s rs)
