-- Among accesses in order, the first ones of their cells are those whose time before is no later than a time at which none of them was made yet.
use Rattle.std.proofs.Common.{◌≡◌, ◌≢◌, ◌⊎◌, ℕ, ◌<◌, ◌≤◌, Bool, true, false, cond, nat_le, ◌==◌, List, [], ◌∷◌, ◌++◌, map, filter, refl, sym, ◌∙◌, ap, subst, inl, inr, arith, append-nil, append_assoc}
use Rattle.std.specs.List.{AllByRecursion}
use Rattle.std.proofs.lemmas.Bool.{eqb-true, eqb-false, leb-true, leb-false}
use Rattle.rv_base.specs.declared.record.TableEntry.{TableEntry}
use Rattle.rv_base.specs.declared.record.Tuple.{Tuple}
use Rattle.rv_spec.specs.Trace.{last_use}
use Rattle.rv_spec.specs.Tuples.{Event, tuple_written}
use Rattle.rv_rules.specs.Chain.{AllDiffer}
use Rattle.rv_rules.specs.Membership.{In}
use Rattle.rv_rules.proofs.Lemmas.{in-append, in-left, in-right, all-in, all-of}
use Rattle.rv_point.proofs.LatestUse.{latest, last_use-unused, last_use-le}

-- what an access finds, as an entry
abbrev pub found_by : Event → TableEntry
found_by e = record { cell = e.cell; value = e.old; time = e.prev }

-- the accesses whose time before is no later than a time
abbrev pub is_first : ℕ → Event → Bool
is_first t e = nat_le e.prev t

abbrev pub firsts : ℕ → List Event → List TableEntry
firsts t es = map found_by (filter (is_first t) es)

-- a cell is used by a tuple of the list, or by none
abbrev pub Used : ℕ → List Tuple → Type 0
Used c ts = (w : Tuple) × In w ts × (w.cell ≡ c)

abbrev pub Unused : ℕ → List Tuple → Type 0
Unused c ts = (w : Tuple) → In w ts → w.cell ≢ c

pub used-or-not : (c : ℕ) (ts : List Tuple) → Used c ts ⊎ Unused c ts
used-or-not c [] = inr (λ w m. absurd m)
used-or-not c (x ∷ xs) = elim (used-or-not c xs) [
  | inl u ↦ inl (u.0, inr u.1, u.2)
  | inr none ↦ elim (x.cell == c) as (λ b. (x.cell == c) ≡ b → Used c (x ∷ xs) ⊎ Unused c (x ∷ xs)) [
    | true ↦ λ e. inl (x, inl refl, eqb-true x.cell c e)
    | false ↦ λ e. inr (λ w m same. elim m [ inl is ↦ eqb-false x.cell c e (ap (λ (z : Tuple). z.cell) (sym is) ∙ same) | inr k ↦ none w k same ])
  ] refl
]

module _ (hist : List Tuple) (start : ℕ) (before : ℕ → ℕ) (early : (w : Tuple) → In w hist → w.time < start) where
  -- an access after those that left `new`: its time before is that of the last use, and the first access of a cell finds what the cell held before all of them
  pub record Link (new : List Tuple) (e : Event) : Type 0 where
    pub prev : e.prev ≡ last_use (hist ++ new) e.cell e.time
    pub after : start < e.time
    pub late : (w : Tuple) → In w new → (start < w.time) × (w.time < e.time)
    pub held : Unused e.cell new → e.old ≡ before e.cell

  abbrev pub Linked : List Tuple → List Event → Type 0
  Linked new [] = Unit {0}
  Linked new (e ∷ es) = Link new e × Linked (new ++ tuple_written e ∷ []) es

  -- links of one list after another
  pub linked-append : (new : List Tuple) (xs ys : List Event) → Linked new xs → Linked (new ++ map tuple_written xs) ys → Linked new (xs ++ ys)
  linked-append new [] ys h k = subst (λ (ts : List Tuple). Linked ts ys) (append-nil new) k
  linked-append new (x ∷ xs) ys h k = (h.0, linked-append (new ++ tuple_written x ∷ []) xs ys h.1 (subst (λ (ts : List Tuple). Linked ts ys) (sym (append_assoc new (tuple_written x ∷ []) (map tuple_written xs))) k))

  -- what a cell held before all accesses
  abbrev pub entry_before : ℕ → TableEntry
  entry_before c = record { cell = c; value = before c; time = last_use hist c start }

  -- the first access of a cell finds what the cell held
  first-finds : (new : List Tuple) (e : Event) → Link new e → Unused e.cell new → (e.prev ≡ last_use hist e.cell start) × (e.old ≡ before e.cell)
  first-finds new e l none = (
    l.prev ∙ last_use-unused hist new e.cell start e.time (let after : start < e.time = l.after in omega arith) early none,
    l.held none,
  )

  -- the test tells whether the cell was used
  tells-first : (new : List Tuple) (e : Event) → Link new e → is_first start e ≡ true → Unused e.cell new
  tells-first new e l is = elim (used-or-not e.cell new) [
    | inr none ↦ none
    | inl u ↦ absurd (
        let w : Tuple = u.0 in
        let low : e.prev ≤ start = leb-true e.prev start is in
        let times : (start < w.time) × (w.time < e.time) = l.late w u.1 in
        let high : w.time ≤ last_use (hist ++ new) e.cell e.time = (latest (hist ++ new) e.cell e.time).most w (in-right w hist new u.1) u.2 times.1 in
        omega (arith, high, times.0, l.prev, low)
        )
  ]

  tells-later : (new : List Tuple) (e : Event) → Link new e → is_first start e ≡ false → Used e.cell new
  tells-later new e l is = elim (used-or-not e.cell new) [
    | inl u ↦ u
    | inr none ↦ absurd (
        let high : start < e.prev = leb-false e.prev start is in
        let same : e.prev ≡ last_use hist e.cell start = (first-finds new e l none).0 in
        omega (arith, high, same, last_use-le hist e.cell start)
        )
  ]

  -- ---- the entries of the first accesses

  pub record AreFirsts (new : List Tuple) (es : List Event) (found : List TableEntry) : Type 0 where
    pub each : AllByRecursion (λ x. x ≡ entry_before x.cell) found
    pub fresh : AllByRecursion (λ x. Unused x.cell new) found
    pub differ : AllDiffer (map (λ x. x.cell) found)
    pub cover : (c : ℕ) → In c (map (λ e. e.cell) es) → Used c new ⊎ In c (map (λ x. x.cell) found)
    pub only : (c : ℕ) → In c (map (λ x. x.cell) found) → In c (map (λ e. e.cell) es)

  used-more : (c : ℕ) (new : List Tuple) (w : Tuple) → Used c (new ++ w ∷ []) → Used c new ⊎ (c ≡ w.cell)
  used-more c new w u = elim (in-append u.0 new (w ∷ []) u.1) [
    | inl k ↦ inl (u.0, k, u.2)
    | inr k ↦ elim k [ inl same ↦ inr (sym u.2 ∙ ap (λ (z : Tuple). z.cell) same) | inr none ↦ absurd none ]
  ]

  unused-less : (c : ℕ) (new : List Tuple) (w : Tuple) → Unused c (new ++ w ∷ []) → Unused c new × (w.cell ≢ c)
  unused-less c new w none = ((λ v m. none v (in-left v new (w ∷ []) m)), none w (in-right w new (w ∷ []) (inl refl)))

  fresh-less : (new : List Tuple) (w : Tuple) (xs : List TableEntry) → AllByRecursion (λ x. Unused x.cell (new ++ w ∷ [])) xs → AllByRecursion (λ x. Unused x.cell new) xs
  fresh-less new w xs h = all-of (λ x. Unused x.cell new) xs (λ x m. (unused-less x.cell new w (all-in (λ x. Unused x.cell (new ++ w ∷ [])) xs h x m)).0)

  -- the other cells differ from that of an access before them
  others : (new : List Tuple) (w : Tuple) (xs : List TableEntry) → AllByRecursion (λ x. Unused x.cell (new ++ w ∷ [])) xs → AllByRecursion (λ c. w.cell ≢ c) (map (λ x. x.cell) xs)
  others new w [] h = tt
  others new w (x ∷ xs) h = ((unused-less x.cell new w h.0).1, others new w xs h.1)

  pub firsts-are : (new : List Tuple) (es : List Event) → Linked new es → AreFirsts new es (firsts start es)
  firsts-are new [] h = record { each = tt; fresh = tt; differ = tt; cover = λ c m. absurd m; only = λ c m. absurd m }
  firsts-are new (e ∷ es) h =
      let w : Tuple = tuple_written e in
      let r : AreFirsts (new ++ w ∷ []) es (firsts start es) = firsts-are (new ++ w ∷ []) es h.1 in
      elim (is_first start e) as (λ b. is_first start e ≡ b → AreFirsts new (e ∷ es) (map found_by (cond b (e ∷ filter (is_first start) es) (filter (is_first start) es)))) [
        | true ↦ λ is.
            let none : Unused e.cell new = tells-first new e h.0 is in
            let finds = first-finds new e h.0 none in
            record {
              each = ((λ i. record { cell = e.cell; value = finds.1 i; time = finds.0 i }), r.each);
              fresh = (none, fresh-less new w (firsts start es) r.fresh);
              differ = (others new w (firsts start es) r.fresh, r.differ);
              cover = λ c m. elim m [
                | inl same ↦ inr (inl same)
                | inr k ↦ elim (r.cover c k) [
                  | inl u ↦ elim (used-more c new w u) [ inl old ↦ inl old | inr same ↦ inr (inl same) ]
                  | inr there ↦ inr (inr there)
                ]
              ];
              only = λ c m. elim m [ inl same ↦ inl same | inr k ↦ inr (r.only c k) ];
            }
        | false ↦ λ is.
            let some : Used e.cell new = tells-later new e h.0 is in
            let there : (c : ℕ) → c ≡ e.cell → Used c new = λ c same. (some.0, some.1, some.2 ∙ sym same) in
            record {
              each = r.each;
              fresh = fresh-less new w (firsts start es) r.fresh;
              differ = r.differ;
              cover = λ c m. elim m [
                | inl same ↦ inl (there c same)
                | inr k ↦ elim (r.cover c k) [
                  | inl u ↦ inl (elim (used-more c new w u) [ inl old ↦ old | inr same ↦ there c same ])
                  | inr found ↦ inr found
                ]
              ];
              only = λ c m. inr (r.only c m);
            }
      ] refl
