-- The first uses of cells in some rows of a run find what the cells held before these rows.
use Rattle.std.proofs.Common.{◌≡◌, ◌≢◌, ℕ, zero, suc, ◌+◌, ◌<◌, ◌≤◌, true, false, cond, nat_le, List, [], ◌∷◌, ◌++◌, map, filter, refl, sym, ◌∙◌, ap, subst, inl, inr, arith, append_assoc}
use Rattle.std.specs.List.{AllByRecursion, flat_map}
use Rattle.std.proofs.lemmas.List.{map-append}
use Rattle.std.proofs.lemmas.List.Elements.{filter-append}
use Rattle.rv_base.specs.declared.record.Access.{Access}
use Rattle.rv_base.specs.declared.record.Tuple.{Tuple}
use Rattle.rv_spec.specs.Elf.{Image}
use Rattle.rv_spec.specs.Step.{State}
use Rattle.rv_spec.specs.Run.{run, next_state}
use Rattle.rv_spec.specs.Cells.{value, time_of}
use Rattle.rv_spec.specs.Visits.{Use, Visit, visit, step_uses, visits}
use Rattle.rv_spec.specs.Trace.{Row, access, tuples_left, history, last_use, rows}
use Rattle.rv_spec.specs.Tuples.{Event, event, events, tuple_written}
use Rattle.rv_rules.specs.Membership.{In}
use Rattle.rv_rules.proofs.Lemmas.{in-append, in-left, in-right, in-map, in-map-back, all-in, all-of}
use Rattle.rv_isa.specs.Ranges.{Rises}
use Rattle.rv_isa.proofs.Lemmas.{step-slots-rise, all-within}
use Rattle.rv_point.specs.Course.{entry_of, first_finds, all_first_finds}
use Rattle.rv_point.proofs.Kept.{Spares, next-keeps}
use Rattle.rv_point.proofs.LatestUse.{last_use-cut}
use Rattle.rv_point.proofs.FirstUses.{Unused, Link, Linked, linked-append, firsts, found_by, is_first, AreFirsts, firsts-are}
use Rattle.rv_point.proofs.LeftTuples.{left_by, left_from, left_from-more, history-more, left_from-times, history-early}

-- ---- what the uses of a step leave

abbrev pub left_of : ℕ → Visit → Tuple
left_of k v = record { cell = v.cell; value = v.new; time = time_of k v.slot }

-- what a step leaves has a slot of its uses
left-slots : (lo k : ℕ) (s t : State) (us : List Use) → AllByRecursion (λ u. (lo ≤ u.slot) × (u.slot < 9)) us → (w : Tuple) → In w (tuples_left k (map (visit s t) us)) → time_of k lo ≤ w.time
left-slots lo k s t us h w m =
    let v = in-map-back (left_of k) w (map (visit s t) us) m in
    let u = in-map-back (visit s t) v.0 us v.1 in
    let bounds : (lo ≤ u.0.slot) × (u.0.slot < 9) = all-in (λ u. (lo ≤ u.slot) × (u.slot < 9)) us h u.0 u.1 in
    let time : w.time ≡ time_of k u.0.slot = ap (λ (z : Tuple). z.time) v.2 ∙ ap (λ (z : Visit). time_of k z.slot) u.2 in
    omega (arith, time, bounds.0)

pub spared : (c k : ℕ) (s t : State) (us : List Use) → Unused c (tuples_left k (map (visit s t) us)) → Spares c us
spared c k s t us none = all-of (λ u. 6 ≤ u.slot → u.cell ≢ c) us (λ u m late. none (left_of k (visit s t u)) (in-map (left_of k) (visit s t u) (map (visit s t) us) (in-map (visit s t) u us m)))

written-row : (h : List Tuple) (k : ℕ) (vs : List Visit) → map tuple_written (map (event k) (map (access h k) vs)) ≡ tuples_left k vs
written-row h k [] = refl
written-row h k (v ∷ vs) = λ j. left_of k v ∷ written-row h k vs j

-- ---- the entries of rows

firsts-row : (t k : ℕ) (accesses : List Access) → firsts t (map (event k) accesses) ≡ first_finds t accesses
firsts-row t k [] = refl
firsts-row t k (a ∷ rest) =
    elim (nat_le a.prev t) as (λ b. map found_by (cond b (event k a ∷ filter (is_first t) (map (event k) rest)) (filter (is_first t) (map (event k) rest))) ≡ map entry_of (cond b (a ∷ filter (λ a. nat_le a.prev t) rest) (filter (λ a. nat_le a.prev t) rest))) [
      | true ↦ λ j. entry_of a ∷ firsts-row t k rest j
      | false ↦ firsts-row t k rest
    ]

firsts-append : (t : ℕ) (xs ys : List Event) → firsts t (xs ++ ys) ≡ firsts t xs ++ firsts t ys
firsts-append t xs ys = ap (map found_by) (filter-append (is_first t) xs ys) ∙ map-append found_by (filter (is_first t) xs) (filter (is_first t) ys)

pub firsts-rows : (t k : ℕ) (rs : List Row) → firsts t (events k rs) ≡ all_first_finds t rs
firsts-rows t k [] = refl
firsts-rows t k (r ∷ rs) =
    let first = firsts-row t k r.accesses in
    let rest = firsts-rows t (k + 1) rs in
    firsts-append t (map (event k) r.accesses) (events (k + 1) rs) ∙ (λ j. first j ++ rest j)

event-cells : (k : ℕ) (accesses : List Access) → map (λ e. e.cell) (map (event k) accesses) ≡ map (λ a. a.cell) accesses
event-cells k [] = refl
event-cells k (a ∷ rest) = λ j. a.cell ∷ event-cells k rest j

pub events-cells : (k : ℕ) (rs : List Row) → map (λ e. e.cell) (events k rs) ≡ flat_map (λ r. map (λ a. a.cell) r.accesses) rs
events-cells k [] = refl
events-cells k (r ∷ rs) =
    let first = event-cells k r.accesses in
    let rest = events-cells (k + 1) rs in
    map-append (λ (e : Event). e.cell) (map (event k) r.accesses) (events (k + 1) rs) ∙ (λ j. first j ++ rest j)

module _ (i : Image) (input : List ℕ) where
  -- ---- a cell that some steps don't use

  pub value-kept : (n k c : ℕ) → Unused c (left_from i input k n) → value (run i input (k + n)) c ≡ value (run i input k) c
  unfolding run visits
  value-kept zero k c none = (let same : k + 0 ≡ k = omega arith in ap (λ m. value (run i input m) c) same)
  value-kept (suc n) k c none =
      let more = left_from-more i input n k in
      let all : Unused c (left_from i input k n ++ left_by i input (k + n)) = subst (Unused c) more none in
      let same : k + suc n ≡ suc (k + n) = omega arith in
      let s : State = run i input (k + n) in
      ap (λ m. value (run i input m) c) same
      ∙ next-keeps input s c (spared c (k + n) s (next_state input s) (step_uses input s) (λ w m. all w (in-right w (left_from i input k n) (left_by i input (k + n)) m)))
      ∙ value-kept n k c (λ w m. all w (in-left w (left_from i input k n) (left_by i input (k + n)) m))

  -- ---- the accesses of the rows from row k on

  module _ (k : ℕ) where
    abbrev pub hist : List Tuple
    hist = history i input k

    abbrev pub start : ℕ
    start = time_of k 0

    abbrev pub before : ℕ → ℕ
    before c = value (run i input k) c

    abbrev pub early : (w : Tuple) → In w hist → w.time < start
    early w m = history-early i input k w m

    abbrev Chained : List Tuple → List Event → Type 0
    Chained new es = Linked hist start before early new es

    module _ (j : ℕ) (from : k ≤ j) where
      abbrev s : State
      s = run i input j

      abbrev t : State
      t = next_state input s

      abbrev all : List Tuple
      all = history i input (suc j)

      row-chained : (done : List Tuple) (lo : ℕ) (us : List Use) → 1 ≤ lo → Rises lo 9 us → all ≡ (hist ++ done) ++ tuples_left j (map (visit s t) us)
          → ((w : Tuple) → In w done → (start < w.time) × (w.time < time_of j lo)) → ((c : ℕ) → Unused c done → value s c ≡ before c)
          → Chained done (map (event j) (map (access all j) (map (visit s t) us)))
      row-chained done lo [] some r is times held = tt
      row-chained done lo (u ∷ us) some r is times held =
          let x : Tuple = left_of j (visit s t u) in
          let within : AllByRecursion (λ v. (u.slot ≤ v.slot) × (v.slot < 9)) (u ∷ us) = all-within u.slot 9 (u ∷ us) (omega arith, r.1) in
          let low : lo ≤ u.slot = r.0 in
          let link : Link hist start before early done (event j (access all j (visit s t u))) = record {
            prev = ap (λ (ts : List Tuple). last_use ts u.cell (time_of j u.slot)) is ∙ last_use-cut (hist ++ done) (tuples_left j (map (visit s t) (u ∷ us))) u.cell (time_of j u.slot) (left-slots u.slot j s t (u ∷ us) within);
            after = omega arith;
            late = λ w m. ((times w m).0, (let less : w.time < time_of j lo = (times w m).1 in omega arith));
            held = λ none. held u.cell none;
          } in (
            link,
            row-chained (done ++ x ∷ []) (u.slot + 1) us (omega arith) r.1
                (is ∙ sym (append_assoc (hist ++ done) (x ∷ []) (tuples_left j (map (visit s t) us))) ∙ ap (λ (ts : List Tuple). ts ++ tuples_left j (map (visit s t) us)) (append_assoc hist done (x ∷ [])))
                (λ w m. elim (in-append w done (x ∷ []) m) [
                  | inl old ↦ ((times w old).0, (let less : w.time < time_of j lo = (times w old).1 in omega arith))
                  | inr own ↦ elim own [ inl same ↦ (let time : w.time ≡ time_of j u.slot = ap (λ (z : Tuple). z.time) same in (omega arith, omega arith)) | inr none ↦ absurd none ]
                ])
                (λ c none. held c (λ w m. none w (in-left w done (x ∷ []) m))),
          )

    rows-chained : (n m : ℕ) → Chained (left_from i input k m) (events (k + m) (rows i input (k + m) n))
    unfolding history visits
    rows-chained zero m = tt
    rows-chained (suc n) m =
        let j : ℕ = k + m in
        let s : State = run i input j in
        let vs : List Visit = map (visit s (next_state input s)) (step_uses input s) in
        let es : List Event = map (event j) (map (access (history i input (suc j)) j) vs) in
        let done : List Tuple = left_from i input k m in
        let own : Chained done es = row-chained j (omega arith) done 1 (step_uses input s) (omega arith) (step-slots-rise input s)
        (ap (λ (ts : List Tuple). ts ++ tuples_left j vs) (history-more i input k m))
        (λ w h. (let b = left_from-times i input m k w h in (b.0, (let less : w.time < time_of j 0 = b.1 in omega arith))))
        (λ c none. value-kept m k c none) in
        let next : k + suc m ≡ j + 1 = omega arith in
        let after : left_from i input k (suc m) ≡ done ++ map tuple_written es = left_from-more i input m k ∙ ap (λ (ts : List Tuple). done ++ ts) (sym (written-row (history i input (suc j)) j vs)) in
        let rest : Chained (done ++ map tuple_written es) (events (j + 1) (rows i input (j + 1) n)) = subst (λ (ts : List Tuple). Chained ts (events (j + 1) (rows i input (j + 1) n))) after (subst (λ x. Chained (left_from i input k (suc m)) (events x (rows i input x n))) next (rows-chained n (suc m))) in
        linked-append hist start before early done es (events (j + 1) (rows i input (j + 1) n)) own rest

    -- what the first accesses of the rows find is what the cells held before them
    pub rows-firsts : (n : ℕ) → AreFirsts hist start before early [] (events k (rows i input k n)) (all_first_finds start (rows i input k n))
    rows-firsts n =
        let none : k + 0 ≡ k = omega arith in
        let chained : Chained [] (events k (rows i input k n)) = subst (λ x. Chained [] (events x (rows i input x n))) none (rows-chained n 0) in
        subst (AreFirsts hist start before early [] (events k (rows i input k n))) (firsts-rows start k (rows i input k n)) (firsts-are hist start before early [] (events k (rows i input k n)) chained)
