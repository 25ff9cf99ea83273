-- The accesses of one row among those of all rows: the last use of a cell before an access of the row is one before the row, or one in an earlier slot of the row.
use Rattle.std.proofs.Common.{◌≡◌, ◌⊎◌, ℕ, ◌+◌, ◌<◌, ◌≤◌, false, cond, ◌==◌, List, ◌++◌, map, refl, sym, ◌∙◌, ap, subst, inl, inr, arith}
use Rattle.std.specs.List.{AllByRecursion}
use Rattle.std.proofs.lemmas.Bool.{ne_eqb}
use Rattle.rv_base.specs.declared.record.Access.{Access}
use Rattle.rv_base.specs.declared.record.Tuple.{Tuple}
use Rattle.rv_spec.specs.Cells.{time_of}
use Rattle.rv_spec.specs.Trace.{last_use, left_at}
use Rattle.rv_spec.specs.Tuples.{Event, event, tuple_written}
use Rattle.rv_rules.specs.Chain.{AllDiffer, value_before}
use Rattle.rv_rules.specs.RowRules.{seen}
use Rattle.rv_rules.specs.Membership.{In}
use Rattle.rv_rules.proofs.Lemmas.{in-map, last_use-is, left_at-is, in-append, in-left, in-right, in-map-back, all-in}
use Rattle.rv_order.proofs.Lemmas.{last_use-most, last_use-in}
use Rattle.rv_isa.specs.Shape.{AreShaped}
use Rattle.rv_sound.proofs.RowFollows.{touch_in}
use Rattle.rv_sound.proofs.RowShape.{InShape, shaped-in}
use Rattle.rv_sound.proofs.ListLemmas.{differ-left}

module _ (es before later : List Event) (k : ℕ) (accs : List Access) (split : es ≡ before ++ (map (event k) accs ++ later)) (differ : AllDiffer (map (λ e. e.time) es))
    (early : AllByRecursion (λ e. e.time < time_of k 0) before) (late : AllByRecursion (λ e. time_of (k + 1) 0 ≤ e.time) later)
    (shaped : AreShaped (seen accs) 1 9 (map touch_in accs)) where
  abbrev own : List Tuple
  own = map tuple_written es

  abbrev here : List Event
  here = map (event k) accs

  abbrev earlier : List Tuple
  earlier = map tuple_written before

  -- the tuples up to this row
  abbrev up_to : List Tuple
  up_to = map tuple_written (before ++ here)

  within : (a : Access) → In a accs → InShape (seen accs) 1 9 (touch_in a)
  within a m = shaped-in (seen accs) 1 9 accs shaped a m

  from-before : (e : Event) → In e before → In e es
  from-before e m = subst (In e) (sym split) (in-left e before (here ++ later) m)

  -- the accesses of the row are among all
  pub from-here : (a : Access) → In a accs → In (event k a) es
  from-here a m = subst (In (event k a)) (sym split) (in-right (event k a) before (here ++ later) (in-left (event k a) here later (in-map (event k) a accs m)))

  -- what is written is written before the row, in it or later
  written-where : (w : Tuple) → In w own → ((e : Event) × In e before × (w ≡ tuple_written e)) ⊎ (((a : Access) × In a accs × (w ≡ tuple_written (event k a))) ⊎ (time_of (k + 1) 0 ≤ w.time))
  written-where w m =
      let r = in-map-back tuple_written w es m in
      elim (in-append r.0 before (here ++ later) (subst (In r.0) split r.1)) [
        | inl h ↦ inl (r.0, h, r.2)
        | inr h ↦ elim (in-append r.0 here later h) [
          | inl g ↦ let a = in-map-back (event k) r.0 accs g in inr (inl (a.0, a.1, r.2 ∙ ap tuple_written a.2))
          | inr g ↦ inr (inr (omega (arith, ap (λ z. z.time) r.2, all-in (λ e. time_of (k + 1) 0 ≤ e.time) later late r.0 g)))
        ]
      ]

  earlier-in-own : (w : Tuple) → In w earlier → In w own
  earlier-in-own w g = let r = in-map-back tuple_written w before g in subst (λ z. In z own) (sym r.2) (in-map tuple_written r.0 es (from-before r.0 r.1))

  up-to-in-own : (w : Tuple) → In w up_to → In w own
  up-to-in-own w g =
      let r = in-map-back tuple_written w (before ++ here) g in
      elim (in-append r.0 before here r.1) [
        | inl b ↦ subst (λ z. In z own) (sym r.2) (in-map tuple_written r.0 es (from-before r.0 b))
        | inr h ↦ let a = in-map-back (event k) r.0 accs h in subst (λ z. In z own) (sym (r.2 ∙ ap tuple_written a.2)) (in-map tuple_written (event k a.0) es (from-here a.0 a.1))
      ]

  -- the last use before an access of the row is that among the accesses up to the row
  pub last-up-to-row : (a : Access) → In a accs → last_use own a.cell (time_of k a.slot) ≡ last_use up_to a.cell (time_of k a.slot)
  last-up-to-row a m =
      let t : ℕ = time_of k a.slot in
      sym (last_use-is up_to a.cell t (last_use own a.cell t) (λ w g cell lt. last_use-most own a.cell t w (up-to-in-own w g) cell lt)
      (elim (last_use-in own a.cell t) [
        | inl none ↦ inl none
        | inr l ↦ elim (written-where l.0 l.1) [
          | inl b ↦ inr (l.0, subst (λ z. In z up_to) (sym b.2) (in-map tuple_written b.0 (before ++ here) (in-left b.0 before here b.1)), l.2, l.3, omega (arith, l.3, l.4))
          | inr (inl r) ↦ inr (l.0, subst (λ z. In z up_to) (sym r.2) (in-map tuple_written (event k r.0) (before ++ here) (in-right (event k r.0) before here (in-map (event k) r.0 accs r.1))), l.2, l.3, omega (arith, l.3, l.4))
          | inr (inr after) ↦ absurd (omega (arith, after, l.4, (within a m).below))
        ]
      ]))

  -- before an access of the row its cell holds what it held before the row, or what an earlier slot of the row left there
  pub held-before-or-left-here : (initial : ℕ → ℕ) (a : Access) → In a accs →
      (value_before initial own a.cell (time_of k a.slot) ≡ value_before initial earlier a.cell (time_of k 0))
      ⊎ ((b : Access) × In b accs × (b.cell ≡ a.cell) × (b.slot < a.slot) × (value_before initial own a.cell (time_of k a.slot) ≡ b.new))
  held-before-or-left-here initial a m =
      let t : ℕ = time_of k a.slot in
      let last : ℕ = last_use own a.cell t in
      let soon : (w : Tuple) → In w earlier → w.time < time_of k 0 = λ w g. let r = in-map-back tuple_written w before g in omega (arith, ap (λ z. z.time) r.2, all-in (λ e. e.time < time_of k 0) before early r.0 r.1) in
      let most : (w : Tuple) → In w earlier → w.cell ≡ a.cell → w.time < time_of k 0 → w.time ≤ last = λ w g cell lt. last_use-most own a.cell t w (earlier-in-own w g) cell (omega (arith, lt)) in
      elim (last_use-in own a.cell t) [
        | inl none ↦
            let first : last_use earlier a.cell (time_of k 0) ≡ 0 = last_use-is earlier a.cell (time_of k 0) 0 (λ w g cell lt. omega (arith, most w g cell lt, none)) (inl refl) in
            inl (ap (λ p. cond (p == 0) (initial a.cell) (left_at own a.cell p)) none ∙ sym (ap (λ p. cond (p == 0) (initial a.cell) (left_at earlier a.cell p)) first))
        | inr some ↦
            let w : Tuple = some.0 in
            let left : left_at own a.cell last ≡ w.value = ap (λ p. left_at own a.cell p) (sym some.3) ∙ ap (λ x. left_at own x w.time) (sym some.2) ∙ left_at-is es differ w some.1 in
            elim (written-where w some.1) [
              | inl b ↦
                  let there : In w earlier = subst (λ z. In z earlier) (sym b.2) (in-map tuple_written b.0 before b.1) in
                  let same : last_use earlier a.cell (time_of k 0) ≡ last = last_use-is earlier a.cell (time_of k 0) last most (inr (w, there, some.2, some.3, omega (arith, some.3, soon w there))) in
                  let differ_before : AllDiffer (map (λ e. e.time) before) = differ-left (λ e. e.time) before (here ++ later) (subst (λ (l : List Event). AllDiffer (map (λ e. e.time) l)) split differ) in
                  let then : left_at earlier a.cell last ≡ w.value = ap (λ p. left_at earlier a.cell p) (sym some.3) ∙ ap (λ x. left_at earlier x w.time) (sym some.2) ∙ left_at-is before differ_before w there in
                  inl (ap (λ x. cond (last == 0) (initial a.cell) x) (left ∙ sym then) ∙ sym (ap (λ p. cond (p == 0) (initial a.cell) (left_at earlier a.cell p)) same))
              | inr (inl r) ↦
                  let positive : (last == 0) ≡ false = ne_eqb last 0 (λ e. absurd (omega (arith, some.3, ap (λ z. z.time) r.2, (within r.0 r.1).above, e))) in
                  inr (r.0, r.1, ap (λ z. z.cell) (sym r.2) ∙ some.2, omega (arith, some.4, ap (λ z. z.time) r.2), ap (λ x. cond x (initial a.cell) (left_at own a.cell last)) positive ∙ left ∙ ap (λ z. z.value) r.2)
              | inr (inr after) ↦ absurd (omega (arith, after, some.4, (within a m).below))
            ]
      ]
