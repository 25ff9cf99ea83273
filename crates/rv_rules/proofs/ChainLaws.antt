-- Where all that is read and all that is written are one multiset, each access reads the last write to its cell, and the table holds the last use of each cell.
use Rattle.std.proofs.Common.{◌≡◌, ◌≢◌, ◌⊎◌, ℕ, zero, suc, ◌<◌, ◌≤◌, max, Bool, true, false, cond, ◌&&◌, ◌==◌, nat_lt, List, [], ◌∷◌, ◌++◌, map, filter, fold, find, option_map, unwrap_or, Some, refl, sym, ◌∙◌, ap, subst, inl, inr, arith, eq-zero-or-pos}
use Rattle.std.proofs.lemmas.List.{map-append}
use Rattle.std.proofs.lemmas.Bool.{eqb-true, eq-eqb, lt-ltb, ltb-true}
use Rattle.rv_base.specs.declared.record.TableEntry.{TableEntry}
use Rattle.rv_base.specs.declared.record.Tuple.{Tuple}
use Rattle.rv_spec.specs.Trace.{last_use, left_at, last_entry, rising, table_of}
use Rattle.rv_spec.specs.Tuples.{Event, tuple_read, tuple_written, tuple_last, tuple_first, all_read, all_written}
use Rattle.rv_spec.specs.Multiset.{Same, count}
use Rattle.rv_rules.specs.Chain.{AllDiffer, AreOrdered, IsChain, at, value_before}
use Rattle.rv_rules.proofs.Conjunctions.{both-true, left-true, right-true}
use Rattle.rv_rules.specs.Membership.{In}
use Rattle.rv_rules.proofs.ChainCore.{in-map, in-count, count-in, at-is, Agree, read-in, last-read}
use Rattle.rv_rules.proofs.Members.{in-append, in-left, in-right, in-map-back, all-in, all-of, same-rising, rising-in, in-rising, rising-rises}
use Rattle.rv_rules.proofs.OwnTimes.{written-once}

-- ---- the last use, as the greatest time that some tuple has

-- a tuple is of the cell, and before the time
abbrev is_before : ℕ → ℕ → Tuple → Bool
is_before c t w = w.cell == c && nat_lt w.time t

abbrev top : ℕ → ℕ → ℕ → List Tuple → ℕ
top a c t ts = fold max a (map (λ w. w.time) (filter (is_before c t) ts))

top-le : (a b c t : ℕ) (ts : List Tuple) → a ≤ b → ((w : Tuple) → In w ts → is_before c t w ≡ true → w.time ≤ b) → top a c t ts ≤ b
top-le a b c t [] h each = h
top-le a b c t (w ∷ ws) h each =
    elim (is_before c t w) as (λ x. is_before c t w ≡ x → fold max a (map (λ w. w.time) (cond x (w ∷ filter (is_before c t) ws) (filter (is_before c t) ws))) ≤ b) [
      | true ↦ λ e. top-le (max a w.time) b c t ws (let less = each w (inl refl) e in omega arith) (λ v m. each v (inr m))
      | false ↦ λ e. top-le a b c t ws h (λ v m. each v (inr m))
    ] refl

top-start : (a c t : ℕ) (ts : List Tuple) → a ≤ top a c t ts
top-start a c t [] = omega arith
top-start a c t (w ∷ ws) =
    elim (is_before c t w) as (λ x. a ≤ fold max a (map (λ w. w.time) (cond x (w ∷ filter (is_before c t) ws) (filter (is_before c t) ws)))) [
      | true ↦ omega (arith, top-start (max a w.time) c t ws)
      | false ↦ top-start a c t ws
    ]

top-ge : (a c t : ℕ) (ts : List Tuple) (v : Tuple) → In v ts → is_before c t v ≡ true → v.time ≤ top a c t ts
top-ge a c t [] v m e = absurd m
top-ge a c t (w ∷ ws) v (inl same) e =
    let passes : is_before c t w ≡ true = ap (is_before c t) (sym same) ∙ e in
    let bound : w.time ≤ fold max a (map (λ w. w.time) (cond true (w ∷ filter (is_before c t) ws) (filter (is_before c t) ws))) = omega (arith, top-start (max a w.time) c t ws) in
    let there : w.time ≤ top a c t (w ∷ ws) = subst (λ x. w.time ≤ fold max a (map (λ w. w.time) (cond x (w ∷ filter (is_before c t) ws) (filter (is_before c t) ws)))) (sym passes) bound in
    subst (λ n. n ≤ top a c t (w ∷ ws)) (ap (λ z. z.time) (sym same)) there
top-ge a c t (w ∷ ws) v (inr m) e =
    elim (is_before c t w) as (λ x. v.time ≤ fold max a (map (λ w. w.time) (cond x (w ∷ filter (is_before c t) ws) (filter (is_before c t) ws)))) [
      | true ↦ top-ge (max a w.time) c t ws v m e
      | false ↦ top-ge a c t ws v m e
    ]

-- p is 0, or the time of an earlier tuple of the cell, and no later one is before t
pub last_use-is : (ts : List Tuple) (c t p : ℕ) → ((w : Tuple) → In w ts → w.cell ≡ c → w.time < t → w.time ≤ p)
    → ((p ≡ 0) ⊎ ((w : Tuple) × In w ts × (w.cell ≡ c) × (w.time ≡ p) × (p < t))) → last_use ts c t ≡ p
unfolding last_use
last_use-is ts c t p most some =
    let low : top 0 c t ts ≤ p = top-le 0 p c t ts (omega arith)
    (λ w m e. most w m (eqb-true w.cell c (left-true (w.cell == c) (nat_lt w.time t) e)) (ltb-true w.time t (right-true (w.cell == c) (nat_lt w.time t) e))) in
    let high : p ≤ top 0 c t ts = elim some [
      | inl none ↦ omega arith
      | inr s ↦
          let w : Tuple = s.0 in
          let is : w.time ≡ p = s.3 in
          let early : p < t = s.4 in
          omega (arith, is, top-ge 0 c t ts w s.1 (both-true _ _ (eq-eqb w.cell c s.2) (lt-ltb w.time t (omega arith))))
    ] in
    omega arith

-- ---- what is left at a time

pub left_at-is : (es : List Event) → AllDiffer (map (λ e. e.time) es) → (w : Tuple) → In w (map tuple_written es) → left_at (map tuple_written es) w.cell w.time ≡ w.value
left_at-is [] d w m = absurd m
left_at-is (e ∷ es) d w (inl same) =
    let passes : at w.cell w.time (tuple_written e) ≡ true = at-is w.cell w.time (tuple_written e) (ap (λ z. z.cell) (sym same)) (ap (λ z. z.time) (sym same)) in
    ap (λ b. unwrap_or (option_map (λ z. z.value) (cond b (Some (tuple_written e)) (find (at w.cell w.time) (map tuple_written es)))) 0) passes ∙ ap (λ z. z.value) (sym same)
left_at-is (e ∷ es) d w (inr m) =
    let other = in-map-back tuple_written w es m in
    let event : Event = other.0 in
    let differs : e.time ≢ event.time = all-in (λ y. e.time ≢ y) (map (λ e. e.time) es) d.0 event.time (in-map (λ e. e.time) event es other.1) in
    let time : w.time ≡ event.time = ap (λ z. z.time) other.2 in
    let fails : at w.cell w.time (tuple_written e) ≡ false =
    elim (at w.cell w.time (tuple_written e)) as (λ b. at w.cell w.time (tuple_written e) ≡ b → b ≡ false) [
      | true ↦ λ h. absurd (differs (eqb-true e.time w.time (right-true (e.cell == w.cell) (e.time == w.time) h) ∙ time))
      | false ↦ λ h. refl
    ] refl in
    ap (λ b. unwrap_or (option_map (λ z. z.value) (cond b (Some (tuple_written e)) (find (at w.cell w.time) (map tuple_written es)))) 0) fails ∙ left_at-is es d.1 w m

-- ---- the law

-- an entry of the table as a reader at the end
abbrev final : ℕ → TableEntry → Event
final bound t = record { cell = t.cell; old = t.value; prev = t.time; new = 0; time = bound }

finals-read : (bound : ℕ) (table : List TableEntry) → map tuple_read (map (final bound) table) ≡ map tuple_last table
finals-read bound [] = refl
finals-read bound (t ∷ ts) = λ i. tuple_last t ∷ finals-read bound ts i

module _ (initial : ℕ → ℕ) (es : List Event) (table : List TableEntry) (bound : ℕ) (o : AreOrdered es table bound) (s : Same (all_read es table) (all_written initial es table)) where
  abbrev ws : List Tuple
  ws = all_written initial es table

  abbrev own : List Tuple
  own = map tuple_written es

  abbrev readers : List Event
  readers = es ++ map (final bound) table

  -- a tuple that is written is an access's, or an initial one
  parts : (w : Tuple) → In w ws → ((e : Event) × In e es × (w ≡ tuple_written e)) ⊎ ((t : TableEntry) × In t table × (w ≡ tuple_first initial t))
  parts w m = elim (in-append w own (map (tuple_first initial) table) m) [
    | inl h ↦ inl (in-map-back tuple_written w es h)
    | inr h ↦ inr (in-map-back (tuple_first initial) w table h)
  ]

  -- a tuple that is written after time 0 is an access's
  late-own : (w : Tuple) → In w ws → 0 < w.time → (e : Event) × In e es × (w ≡ tuple_written e)
  late-own w m late = elim (parts w m) [
    | inl h ↦ h
    | inr h ↦ let none : w.time ≡ 0 = ap (λ z. z.time) h.2 in absurd (omega arith)
  ]

  -- a tuple that is written at time 0 is an initial one
  first-own : (w : Tuple) → In w ws → w.time ≡ 0 → (t : TableEntry) × In t table × (w ≡ tuple_first initial t)
  first-own w m none = elim (parts w m) [
    | inl h ↦
        let e : Event = h.0 in
        let time : w.time ≡ e.time = ap (λ z. z.time) h.2 in
        let later : e.prev < e.time = all-in (λ e. e.prev < e.time) es o.earlier e h.1 in
        absurd (omega arith)
    | inr h ↦ h
  ]

  -- what is read was written
  was-written : (w : Tuple) → In w (all_read es table) → In w ws
  was-written w m = count-in w ws (subst (λ n. 1 ≤ n) (s.counts w) (in-count w (all_read es table) m))

  last-in : (t : TableEntry) → In t table → In (tuple_last t) ws
  last-in t m = was-written (tuple_last t) (in-right (tuple_last t) (map tuple_read es) (map tuple_last table) (in-map tuple_last t table m))

  late : (t : TableEntry) → In t table → 0 < t.time
  late t m = all-in (λ t. 0 < t.time) table o.after_start t m

  below : (t : TableEntry) → In t table → t.time < bound
  below t m =
      let h = late-own (tuple_last t) (last-in t m) (late t m) in
      let e : Event = h.0 in
      let time : t.time ≡ e.time = ap (λ z. z.time) h.2 in
      let bounded : e.time < bound = all-in (λ e. e.time < bound) es o.below e h.1 in
      omega arith

  agree : Agree readers ws
  agree = record {
    same = record { counts = λ t. ap (count t) (map-append tuple_read es (map (final bound) table) ∙ ap (λ l. map tuple_read es ++ l) (finals-read bound table)) ∙ s.counts t };
    once = written-once initial es table bound o;
    earlier = λ e m. elim (in-append e es (map (final bound) table) m) [
      | inl h ↦ all-in (λ e. e.prev < e.time) es o.earlier e h
      | inr h ↦ let r = in-map-back (final bound) e table h in subst (λ z. z.prev < z.time) (sym r.2) (below r.0 r.1)
    ];
    written = λ w m positive.
        let h = late-own w m positive in
        (h.0, in-left h.0 es (map (final bound) table) h.1, ap (λ z. z.cell) (sym h.2), ap (λ z. z.time) (sym h.2));
  }

  own-in : (w : Tuple) → In w own → In w ws
  own-in w m = in-left w own (map (tuple_first initial) table) m

  -- what a reader reads, if it is after time 0, is an access's
  reads-own : (e : Event) → In e readers → 0 < e.prev → In (tuple_read e) own
  reads-own e m positive =
      let h = late-own (tuple_read e) (read-in readers ws agree e m) positive in
      subst (λ w. In w own) (sym h.2) (in-map tuple_written h.0 es h.1)

  reader-time : (e : Event) → In e readers → e.prev ≡ last_use own e.cell e.time
  reader-time e m =
      let earlier : e.prev < e.time = agree.earlier e m in
      sym (last_use-is own e.cell e.time e.prev
      (λ w h cell time. last-read readers ws agree e m w (own-in w h) cell time)
      (elim (eq-zero-or-pos e.prev) [
        | inl none ↦ inl none
        | inr some ↦ inr (tuple_read e, reads-own e m some, refl, refl, earlier)
      ]))

  reader-value : (e : Event) → In e readers → e.old ≡ value_before initial own e.cell e.time
  reader-value e m =
      let by : ℕ → ℕ = λ n. cond (n == 0) (initial e.cell) (left_at own e.cell n) in
      let here : e.old ≡ by e.prev = elim (eq-zero-or-pos e.prev) [
        | inl none ↦
            let h = first-own (tuple_read e) (read-in readers ws agree e m) none in
            let t : TableEntry = h.0 in
            let cell : e.cell ≡ t.cell = ap (λ z. z.cell) h.2 in
            let value : e.old ≡ initial t.cell = ap (λ z. z.value) h.2 in
            value ∙ ap initial (sym cell) ∙ ap (λ b. cond b (initial e.cell) (left_at own e.cell e.prev)) (sym (eq-eqb e.prev 0 none))
        | inr some ↦
            let not-zero : (e.prev == 0) ≡ false = elim (e.prev == 0) as (λ b. (e.prev == 0) ≡ b → b ≡ false) [ true ↦ λ h. (let z : e.prev ≡ 0 = eqb-true e.prev 0 h in absurd (omega arith)) | false ↦ λ h. refl ] refl in
            sym (left_at-is es o.differ (tuple_read e) (reads-own e m some)) ∙ ap (λ b. cond b (initial e.cell) (left_at own e.cell e.prev)) (sym not-zero)
      ] in
      here ∙ ap by (reader-time e m)

  in-readers : (t : TableEntry) → In t table → In (final bound t) readers
  in-readers t m = in-right (final bound t) es (map (final bound) table) (in-map (final bound) t table m)

  entry : (t : TableEntry) → In t table → t ≡ last_entry own bound t.cell
  entry t m =
      let time : t.time ≡ last_use own t.cell bound = reader-time (final bound t) (in-readers t m) in
      let value : t.value ≡ left_at own t.cell t.time = sym (left_at-is es o.differ (tuple_last t) (reads-own (final bound t) (in-readers t m) (late t m))) in
      λ i. record { cell = t.cell; value = (value ∙ ap (left_at own t.cell) time) i; time = time i }

  entries : (ts : List TableEntry) → ((t : TableEntry) → In t ts → t ≡ last_entry own bound t.cell) → ts ≡ map (last_entry own bound) (map (λ t. t.cell) ts)
  entries [] h = refl
  entries (t ∷ ts) h =
      let head = h t (inl refl) in
      let tail = entries ts (λ u m. h u (inr m)) in
      λ i. head i ∷ tail i

  -- a cell that is used is in the table, and a cell of the table is used
  tabled : (n : ℕ) (e : Event) → In e es → e.time ≤ n → In e.cell (map (λ t. t.cell) table)
  tabled zero e m h = let earlier : e.prev < e.time = all-in (λ e. e.prev < e.time) es o.earlier e m in absurd (omega arith)
  tabled (suc n) e m h =
      let reader : In e readers = in-left e es (map (final bound) table) m in
      let earlier : e.prev < e.time = agree.earlier e reader in
      let read : In (tuple_read e) ws = read-in readers ws agree e reader in
      elim (eq-zero-or-pos e.prev) [
        | inl none ↦ let r = first-own (tuple_read e) read none in subst (λ c. In c (map (λ t. t.cell) table)) (ap (λ z. z.cell) (sym r.2)) (in-map (λ t. t.cell) r.0 table r.1)
        | inr some ↦
            let r = late-own (tuple_read e) read some in
            let before : Event = r.0 in
            let time : e.prev ≡ before.time = ap (λ z. z.time) r.2 in
            subst (λ c. In c (map (λ t. t.cell) table)) (ap (λ z. z.cell) (sym r.2)) (tabled n before r.1 (omega arith))
      ]

  used : (c : ℕ) → In c (map (λ t. t.cell) table) → In c (map (λ w. w.cell) own)
  used c m =
      let r = in-map-back (λ t. t.cell) c table m in
      let t : TableEntry = r.0 in
      let h = late-own (tuple_last t) (last-in t r.1) (late t r.1) in
      let there : In t.cell (map (λ w. w.cell) own) = subst (λ w. In w.cell (map (λ w. w.cell) own)) (sym h.2) (in-map (λ w. w.cell) (tuple_written h.0) own (in-map tuple_written h.0 es h.1)) in
      subst (λ x. In x (map (λ w. w.cell) own)) (sym r.2) there

  in-table : (c : ℕ) → In c (map (λ w. w.cell) own) → In c (map (λ t. t.cell) table)
  in-table c m =
      let w = in-map-back (λ w. w.cell) c own m in
      let r = in-map-back tuple_written w.0 es w.1 in
      let e : Event = r.0 in
      let cell : c ≡ e.cell = w.2 ∙ ap (λ z. z.cell) r.2 in
      subst (λ x. In x (map (λ t. t.cell) table)) (sym cell) (tabled e.time e r.1 (omega arith))

  cells : map (λ t. t.cell) table ≡ rising (map (λ w. w.cell) own)
  cells = same-rising (map (λ t. t.cell) table) (rising (map (λ w. w.cell) own)) o.rising (rising-rises (map (λ w. w.cell) own))
      (λ c m. rising-in c (map (λ w. w.cell) own) (used c m))
      (λ c m. in-table c (in-rising c (map (λ w. w.cell) own) m))

  pub chain : IsChain initial es table bound
  unfolding table_of
  chain = record {
    times = all-of (λ e. e.prev ≡ last_use own e.cell e.time) es (λ e m. reader-time e (in-left e es (map (final bound) table) m));
    values = all-of (λ e. e.old ≡ value_before initial own e.cell e.time) es (λ e m. reader-value e (in-left e es (map (final bound) table) m));
    last = entries table entry ∙ ap (map (last_entry own bound)) cells;
  }
