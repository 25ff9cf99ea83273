-- Where each access reads the last write to its cell, and the table holds the last use of each cell, all that is read and all that is written are one multiset: no tuple is read twice, what is read was written, and as many tuples are read as are written.
use Rattle.std.proofs.Common.{◌≡◌, ◌≢◌, ℕ, ◌+◌, ◌<◌, ◌≤◌, true, false, cond, ◌==◌, List, [], ◌∷◌, ◌++◌, length, map, refl, sym, ◌∙◌, ap, subst, inl, inr, arith, eq-zero-or-pos, length-append}
use Rattle.std.specs.List.{AllByRecursion}
use Rattle.std.proofs.lemmas.List.{map-append, length-map}
use Rattle.std.proofs.lemmas.Bool.{cases_order, ne_eqb}
use Rattle.rv_base.specs.declared.record.TableEntry.{TableEntry}
use Rattle.rv_base.specs.declared.record.Tuple.{Tuple}
use Rattle.rv_spec.specs.Trace.{last_use, left_at, last_entry, rising, table_of}
use Rattle.rv_spec.specs.Tuples.{Event, tuple_read, tuple_written, tuple_last, tuple_first, all_read, all_written}
use Rattle.rv_spec.specs.Grammar.{IsRising}
use Rattle.rv_spec.specs.Multiset.{Same, count, same_tuple}
use Rattle.rv_rules.specs.Chain.{AllDiffer, AreOrdered, IsChain, value_before}
use Rattle.rv_rules.specs.Membership.{In}
use Rattle.rv_rules.proofs.Lemmas.{in-map, in-count, count-in, left_at-is, in-append, in-left, in-right, in-map-back, all-in, all-of, rising-in, in-rising, rising-rises, count-cons, same_tuple-true}
use Rattle.rv_order.specs.OwnTimes.{HaveOwnTimes}
use Rattle.rv_order.proofs.LastUse.{last_use-most, last_use-in, last_use-lt}
use Rattle.rv_order.proofs.Pigeonhole.{same-from-le}

-- ---- readers of which no two at one cell have one time

-- an entry of the table as a reader at the end
abbrev final : ℕ → TableEntry → Event
final bound t = record { cell = t.cell; old = t.value; prev = t.time; new = 0; time = bound }

-- no two readers of the list have one cell and one time
abbrev AreApart : List Event → Type 0
AreApart [] = Unit {0}
AreApart (e ∷ es) = AllByRecursion (λ f. e.cell ≡ f.cell → e.time ≢ f.time) es × AreApart es

module _ (bound : ℕ) where
  finals-apart : (table : List TableEntry) → IsRising (map (λ t. t.cell) table) → AreApart (map (final bound) table)
  finals-apart [] r = tt
  finals-apart (t ∷ ts) r =
      let later : (f : Event) → In f (map (final bound) ts) → t.cell ≡ f.cell → bound ≢ f.time = λ f m same time.
      let other = in-map-back (final bound) f ts m in
      let above : t.cell < other.0.cell = all-in (λ y. t.cell < y) (map (λ t. t.cell) ts) r.0 other.0.cell (in-map (λ t. t.cell) other.0 ts other.1) in
      omega (arith, ap (λ z. z.cell) other.2, same, above) in
      (all-of (λ f. t.cell ≡ f.cell → bound ≢ f.time) (map (final bound) ts) later, finals-apart ts r.1)

  readers-apart : (es : List Event) (table : List TableEntry) → AllDiffer (map (λ e. e.time) es) → AllByRecursion (λ e. e.time < bound) es → IsRising (map (λ t. t.cell) table) → AreApart (es ++ map (final bound) table)
  readers-apart [] table d b r = finals-apart table r
  readers-apart (e ∷ es) table d b r =
      let apart : (f : Event) → In f (es ++ map (final bound) table) → e.cell ≡ f.cell → e.time ≢ f.time = λ f m same. elim (in-append f es (map (final bound) table) m) [
        | inl h ↦ all-in (λ y. e.time ≢ y) (map (λ e. e.time) es) d.0 f.time (in-map (λ e. e.time) f es h)
        | inr h ↦ λ time. let t = in-map-back (final bound) f table h in omega (arith, ap (λ z. z.time) t.2, time, b.0)
      ] in
      (all-of (λ f. e.cell ≡ f.cell → e.time ≢ f.time) (es ++ map (final bound) table) apart, readers-apart es table d.1 b.1 r)

-- where readers of one cell at two times read two times, no tuple is read twice
read-once : (all : List Event) → ((e f : Event) → In e all → In f all → e.cell ≡ f.cell → e.time < f.time → e.prev ≢ f.prev) → (rs : List Event) → ((e : Event) → In e rs → In e all) → AreApart rs → (t : Tuple) → count t (map tuple_read rs) ≤ 1
unfolding count
read-once all h [] among apart t = omega arith
read-once all h (e ∷ es) among apart t =
    let rest : count t (map tuple_read es) ≤ 1 = read-once all h es (λ f m. among f (inr m)) apart.1 t in
    let alone : t ≡ tuple_read e → count t (map tuple_read es) ≡ 0 = λ same. elim (eq-zero-or-pos (count t (map tuple_read es))) [
      | inl none ↦ none
      | inr some ↦
          let other = in-map-back tuple_read t es (count-in t (map tuple_read es) some) in
          let f : Event = other.0 in
          let cell : e.cell ≡ f.cell = ap (λ z. z.cell) (sym same ∙ other.2) in
          let prev : e.prev ≡ f.prev = ap (λ z. z.time) (sym same ∙ other.2) in
          elim (cases_order e.time f.time) [
            | inl times ↦ absurd (all-in (λ f. e.cell ≡ f.cell → e.time ≢ f.time) es apart.0 f other.1 cell times)
            | inr (inl early) ↦ absurd (h e f (among e (inl refl)) (among f (inr other.1)) cell early prev)
            | inr (inr late) ↦ absurd (h f e (among f (inr other.1)) (among e (inl refl)) (sym cell) late (sym prev))
          ]
    ] in
    let split = count-cons t (tuple_read e) (map tuple_read es) in
    elim (same_tuple t (tuple_read e)) as (λ b. same_tuple t (tuple_read e) ≡ b → count t (map tuple_read (e ∷ es)) ≤ 1) [
      | true ↦ λ p. omega (arith, split ∙ ap (λ b. cond b 1 0 + count t (map tuple_read es)) p, alone (same_tuple-true t (tuple_read e) p))
      | false ↦ λ p. omega (arith, split ∙ ap (λ b. cond b 1 0 + count t (map tuple_read es)) p, rest)
    ] refl

-- ---- the law

module _ (initial : ℕ → ℕ) (es : List Event) (table : List TableEntry) (bound : ℕ) (o : HaveOwnTimes es bound) (c : IsChain initial es table bound) where
  abbrev own : List Tuple
  own = map tuple_written es

  abbrev ws : List Tuple
  ws = all_written initial es table

  abbrev readers : List Event
  readers = es ++ map (final bound) table

  positive : (e : Event) → In e es → 0 < e.time
  positive e m = all-in (λ e. 0 < e.time) es o.positive e m

  below : (e : Event) → In e es → e.time < bound
  below e m = all-in (λ e. e.time < bound) es o.below e m

  -- the table has an entry for each cell that is used
  entry-cells : (cs : List ℕ) → map (λ t. t.cell) (map (last_entry own bound) cs) ≡ cs
  entry-cells [] = refl
  entry-cells (d ∷ ds) = λ i. d ∷ entry-cells ds i

  cells : map (λ t. t.cell) table ≡ rising (map (λ w. w.cell) own)
  unfolding table_of
  cells = ap (map (λ t. t.cell)) c.last ∙ entry-cells (rising (map (λ w. w.cell) own))

  entry : (t : TableEntry) → In t table → t ≡ last_entry own bound t.cell
  unfolding table_of
  entry t m =
      let r = in-map-back (last_entry own bound) t (rising (map (λ w. w.cell) own)) (subst (In t) c.last m) in
      r.2 ∙ ap (last_entry own bound) (ap (λ z. z.cell) (sym r.2))

  late : (t : TableEntry) → In t table → 0 < t.time
  late t m =
      let used : In t.cell (map (λ w. w.cell) own) = in-rising t.cell (map (λ w. w.cell) own) (subst (In t.cell) cells (in-map (λ t. t.cell) t table m)) in
      let w = in-map-back (λ w. w.cell) t.cell own used in
      let r = in-map-back tuple_written w.0 es w.1 in
      let e : Event = r.0 in
      let cell : e.cell ≡ t.cell = sym (w.2 ∙ ap (λ z. z.cell) r.2) in
      let last : e.time ≤ last_use own t.cell bound = last_use-most own t.cell bound (tuple_written e) (in-map tuple_written e es r.1) cell (below e r.1) in
      omega (arith, last, positive e r.1, ap (λ z. z.time) (entry t m))

  pub ordered : AreOrdered es table bound
  ordered = record {
    differ = o.differ;
    earlier = all-of (λ e. e.prev < e.time) es (λ e m. omega (arith, all-in (λ e. e.prev ≡ last_use own e.cell e.time) es c.times e m, last_use-lt own e.cell e.time (positive e m)));
    below = o.below;
    after_start = all-of (λ t. 0 < t.time) table late;
    rising = subst IsRising (sym cells) (rising-rises (map (λ w. w.cell) own));
  }

  -- An access, or an entry of the table, reads the last use of its cell, which is in the table.
  record IsReader (e : Event) : Type 0 where
    prev : e.prev ≡ last_use own e.cell e.time
    old : e.old ≡ value_before initial own e.cell e.time
    positive : 0 < e.time
    most : e.time ≤ bound
    tabled : In e.cell (map (λ t. t.cell) table)

  not-zero : (n : ℕ) → 0 < n → (n == 0) ≡ false
  not-zero n h = ne_eqb n 0 (λ e. omega arith)

  access-reads : (e : Event) → In e es → IsReader e
  access-reads e m = record {
    prev = all-in (λ e. e.prev ≡ last_use own e.cell e.time) es c.times e m;
    old = all-in (λ e. e.old ≡ value_before initial own e.cell e.time) es c.values e m;
    positive = positive e m;
    most = omega (arith, below e m);
    tabled = subst (In e.cell) (sym cells) (rising-in e.cell (map (λ w. w.cell) own) (in-map (λ w. w.cell) (tuple_written e) own (in-map tuple_written e es m)));
  }

  entry-reads : (t : TableEntry) → In t table → IsReader (final bound t)
  entry-reads t m =
      let time : t.time ≡ last_use own t.cell bound = ap (λ z. z.time) (entry t m) in
      let last : 0 < last_use own t.cell bound = omega (arith, time, late t m) in
      let value : t.value ≡ left_at own t.cell (last_use own t.cell bound) = ap (λ z. z.value) (entry t m) in
      record {
        prev = time;
        old = value ∙ ap (λ b. cond b (initial t.cell) (left_at own t.cell (last_use own t.cell bound))) (sym (not-zero (last_use own t.cell bound) last));
        positive = elim (last_use-in own t.cell bound) [
          | inl none ↦ omega (arith, last, none)
          | inr some ↦ omega (arith, some.4)
        ];
        most = omega arith;
        tabled = in-map (λ t. t.cell) t table m;
      }

  reads : (e : Event) → In e readers → IsReader e
  reads e m = elim (in-append e es (map (final bound) table) m) [
    | inl h ↦ access-reads e h
    | inr h ↦ let r = in-map-back (final bound) e table h in subst IsReader (sym r.2) (entry-reads r.0 r.1)
  ]

  -- a reader before another one at its cell is an access, so the other reads its time or a later one
  read-apart : (e f : Event) → In e readers → In f readers → e.cell ≡ f.cell → e.time < f.time → e.prev ≢ f.prev
  read-apart e f me mf cell early prevs = elim (in-append e es (map (final bound) table) me) [
    | inl h ↦
        let last : e.time ≤ last_use own f.cell f.time = last_use-most own f.cell f.time (tuple_written e) (in-map tuple_written e es h) cell early in
        omega (arith, last, (reads e me).prev, (reads f mf).prev, last_use-lt own e.cell e.time (positive e h))
    | inr h ↦
        let r = in-map-back (final bound) e table h in
        omega (arith, ap (λ z. z.time) r.2, (reads f mf).most)
  ]

  -- what is read was written
  was-written : (e : Event) → In e readers → In (tuple_read e) ws
  was-written e m =
      let r : IsReader e = reads e m in
      let by : ℕ → ℕ = λ n. cond (n == 0) (initial e.cell) (left_at own e.cell n) in
      elim (last_use-in own e.cell e.time) [
        | inl none ↦
            let entry = in-map-back (λ t. t.cell) e.cell table r.tabled in
            let value : e.old ≡ initial entry.0.cell = r.old ∙ ap by none ∙ ap initial entry.2 in
            let same : tuple_read e ≡ tuple_first initial entry.0 = λ i. record { cell = entry.2 i; value = value i; time = (r.prev ∙ none) i } in
            subst (λ w. In w ws) (sym same) (in-right (tuple_first initial entry.0) own (map (tuple_first initial) table) (in-map (tuple_first initial) entry.0 table entry.1))
        | inr some ↦
            let w : Tuple = some.0 in
            let own_event = in-map-back tuple_written w es some.1 in
            let late : 0 < w.time = omega (arith, positive own_event.0 own_event.1, ap (λ z. z.time) own_event.2) in
            let time : e.prev ≡ w.time = r.prev ∙ sym some.3 in
            let value : e.old ≡ w.value = r.old ∙ ap by (sym some.3) ∙ ap (λ b. cond b (initial e.cell) (left_at own e.cell w.time)) (not-zero w.time late) ∙ ap (λ d. left_at own d w.time) (sym some.2) ∙ left_at-is es o.differ w some.1 in
            let same : tuple_read e ≡ w = λ i. record { cell = sym some.2 i; value = value i; time = time i } in
            subst (λ w. In w ws) (sym same) (in-left w own (map (tuple_first initial) table) some.1)
      ]

  finals-read : (ts : List TableEntry) → map tuple_read (map (final bound) ts) ≡ map tuple_last ts
  finals-read [] = refl
  finals-read (t ∷ ts) = λ i. tuple_last t ∷ finals-read ts i

  all-of-readers : map tuple_read readers ≡ all_read es table
  all-of-readers = map-append tuple_read es (map (final bound) table) ∙ ap (λ l. map tuple_read es ++ l) (finals-read table)

  once : (t : Tuple) → count t (map tuple_read readers) ≤ 1
  once = read-once readers read-apart readers (λ e m. m) (readers-apart bound es table o.differ o.below ordered.rising)

  read-le : (t : Tuple) → count t (map tuple_read readers) ≤ count t ws
  read-le t = elim (eq-zero-or-pos (count t (map tuple_read readers))) [
    | inl none ↦ omega (arith, none)
    | inr some ↦
        let r = in-map-back tuple_read t readers (count-in t (map tuple_read readers) some) in
        omega (arith, once t, in-count t ws (subst (λ w. In w ws) (sym r.2) (was-written r.0 r.1)))
  ]

  as-many : length (all_read es table) ≡ length ws
  as-many = simp (length-append, length-map)

  pub same : Same (all_read es table) ws
  same = record { counts = same-from-le (all_read es table) ws as-many (λ t. subst (λ l. count t l ≤ count t ws) all-of-readers (read-le t)) }
