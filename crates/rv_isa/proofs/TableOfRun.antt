-- The cells that a hart has used are the table of the run.
use Rattle.std.proofs.Common.{◌≡◌, ◌≢◌, ◌⊎◌, ℕ, zero, suc, ◌+◌, ◌^◌, ◌<◌, cond, List, [], ◌∷◌, map, refl, sym, ◌∙◌, ap, ap₂, subst, inl, inr, arith, IsTrue}
use Rattle.std.specs.List.{AllByRecursion, Contains}
use Rattle.std.proofs.lemmas.Bool.{ne_eqb}
use Rattle.rv_base.specs.declared.record.TableEntry.{TableEntry}
use Rattle.rv_base.specs.declared.record.Tuple.{Tuple}
use Rattle.rv_spec.specs.Words.{AreBytes}
use Rattle.rv_spec.specs.Elf.{Image}
use Rattle.rv_spec.specs.Run.{run}
use Rattle.rv_spec.specs.Cells.{is_cell, value, initial_value, time_of}
use Rattle.rv_spec.specs.Visits.{Visit, visit, visits, step_uses}
use Rattle.rv_spec.specs.Run.{next_state}
use Rattle.rv_spec.specs.Trace.{history, last_use, left_at, last_entry, rising, table_of, table, tuples_left}
use Rattle.rv_rules.specs.Agreement.{IsProgram}
use Rattle.rv_rules.specs.Membership.{In}
use Rattle.rv_rules.proofs.Lemmas.{all-in, all-of, in-append, in-map, in-map-back, in-rising, last_use-is, rising-in, rising-rises, same-rising}
use Rattle.rv_mem.specs.Contents.{Contents, value_at, time_at, IsTable}
use Rattle.rv_isa.specs.HartState.{HartState, StandsFor, IsTimed}
use Rattle.rv_isa.specs.Resumed.{IsKnown}
use Rattle.rv_isa.specs.Hart.{TouchedIsTable}
use Rattle.rv_isa.proofs.HartLaws.{cell-of}
use Rattle.rv_isa.proofs.LastUses.{LeftBy, run-holds, holds-last-uses}
use Rattle.rv_isa.proofs.RunRanges.{runs-fit}

-- ---- members of a table

in-contains : (e : TableEntry) (es : List TableEntry) → In e es → Contains es e
in-contains e [] m = absurd m
in-contains e (x ∷ xs) (inl same) = (0, omega arith, sym same)
in-contains e (x ∷ xs) (inr m) = let r = in-contains e xs m in (suc r.0, (let h = r.1 in omega arith), r.2)

contains-in : (e : TableEntry) (es : List TableEntry) → Contains es e → In e es
contains-in e [] (k, h, is) = absurd (omega arith)
contains-in e (x ∷ xs) (zero, h, is) = inl (sym is)
contains-in e (x ∷ xs) (suc k, h, is) = inr (contains-in e xs (k, omega arith, is))

-- a table is of known cells
pub table-known : (m : Contents) (i : Image) (es : List TableEntry) → IsTable m es → AllByRecursion (IsKnown i) es
table-known m i es is = all-of (IsKnown i) es (λ e there. (let set = is.set_only e (in-contains e es there) in record { cell = is.cells e (in-contains e es there); unused = λ none. absurd (let some : 0 < e.time = set.0 in omega arith) }))

mapped : (f : ℕ → TableEntry) (es : List TableEntry) → ((e : TableEntry) → In e es → e ≡ f e.cell) → es ≡ map f (map (λ e. e.cell) es)
mapped f [] each = refl
mapped f (e ∷ es) each = ap₂ (λ x xs. x ∷ xs) (each e (inl refl)) (mapped f es (λ x m. each x (inr m)))

-- ---- what a run leaves

module _ (i : Image) (input : List ℕ) (program : IsProgram i) (bytes : AreBytes input) where
  -- it leaves tuples in cells alone
  history-cells : (n : ℕ) (w : Tuple) → In w (history i input n) → IsTrue (is_cell 2 w.cell)
  unfolding history visits
  history-cells zero w m = absurd m
  history-cells (suc n) w m = elim (in-append w (history i input n) (tuples_left n (visits input (run i input n))) m) [
    | inl before ↦ history-cells n w before
    | inr here ↦
        let v = in-map-back (λ (v : Visit). (let t : Tuple = record { cell = v.cell; value = v.new; time = time_of n v.slot } in t)) w (visits input (run i input n)) here in
        let u = in-map-back (visit (run i input n) (next_state input (run i input n))) v.0 (step_uses input (run i input n)) v.1 in
        let cell : IsTrue (is_cell i.version u.0.cell) = (all-in (λ u. IsTrue (is_cell i.version u.cell) × (u.cell < 2 ^ 30 + 33)) (step_uses input (run i input n)) (runs-fit i input program bytes n).cells u.0 u.1).0 in
        subst (λ c. IsTrue (is_cell 2 c)) (sym (ap (λ (t : Tuple). t.cell) v.2 ∙ ap (λ (v : Visit). v.cell) u.2)) (cell-of i.version u.0.cell cell)
  ]

  module _ (n : ℕ) where
    abbrev ts : List Tuple
    ts = history i input n

    abbrev last : ℕ → ℕ
    last c = last_use ts c (time_of n 0)

    -- a cell was never used, or has a last use
    uses : (c : ℕ) → (((w : Tuple) → In w ts → w.cell ≢ c) × (last c ≡ 0)) ⊎ ((w : Tuple) × In w ts × (w.cell ≡ c) × (0 < last c))
    uses c = elim (run-holds i input n c) [
      | inl none ↦ inl (none.0, last_use-is ts c (time_of n 0) 0 (λ w m cell early. absurd (none.0 w m cell)) (inl refl))
      | inr l ↦
          let w : Tuple = l.0 in
          let is : LeftBy ts c (value (run i input n) c) (time_of n 0) w = l.1 in
          let time : last c ≡ w.time = last_use-is ts c (time_of n 0) w.time (λ u m cell early. is.most u m cell) (inr (w, is.stands, is.cell, refl, is.early)) in
          inr (w, is.stands, is.cell, omega (arith, is.some))
    ]

    left-value : (c : ℕ) → 0 < last c → value (run i input n) c ≡ left_at ts c (last c)
    left-value c used = holds-last-uses i input n c ∙ ap (λ b. cond b (initial_value i c) (left_at ts c (last c))) (ne_eqb (last c) 0 (λ none. absurd (omega arith)))

    module _ (h : HartState) (entries : List TableEntry) (shows : StandsFor h (run i input n)) (timed : IsTimed h (history i input n) n) (is : IsTable h.cells entries) where
      -- an entry is that of the last use of its cell
      entry-last : (e : TableEntry) → In e entries → (e ≡ last_entry ts (time_of n 0) e.cell) × (0 < last e.cell)
      entry-last e m =
          let there : Contains entries e = in-contains e entries m in
          let cell : IsTrue (is_cell 2 e.cell) = is.cells e there in
          let set = is.set_only e there in
          let time : e.time ≡ last e.cell = set.2 ∙ timed.times e.cell cell in
          let some : 0 < last e.cell = (let t : 0 < e.time = set.0 in omega arith) in
          let held : e.value ≡ left_at ts e.cell (last e.cell) = set.1 ∙ shows.cells e.cell cell ∙ left-value e.cell some in
          (ap₂ (to-entry e.cell) held time, some)
        where
          to-entry : ℕ → ℕ → ℕ → TableEntry
          to-entry cell value time = record { cell = cell; value = value; time = time }

      to-used : (c : ℕ) → In c (map (λ e. e.cell) entries) → In c (rising (map (λ t. t.cell) ts))
      to-used c m =
          let found = in-map-back (λ (e : TableEntry). e.cell) c entries m in
          let e : TableEntry = found.0 in
          rising-in c (map (λ t. t.cell) ts)
          (elim (uses e.cell) [
            | inl none ↦ absurd (let some : 0 < last e.cell = (entry-last e found.1).1 in let zero : last e.cell ≡ 0 = none.1 in omega arith)
            | inr l ↦ subst (λ k. In k (map (λ t. t.cell) ts)) (l.2 ∙ sym found.2) (in-map (λ t. t.cell) l.0 ts l.1)
          ])

      from-used : (c : ℕ) → In c (rising (map (λ t. t.cell) ts)) → In c (map (λ e. e.cell) entries)
      from-used c m =
          let found = in-map-back (λ (t : Tuple). t.cell) c ts (in-rising c (map (λ t. t.cell) ts) m) in
          let cell : IsTrue (is_cell 2 c) = subst (λ k. IsTrue (is_cell 2 k)) (sym found.2) (history-cells n found.0 found.1) in
          elim (uses c) [
            | inl none ↦ absurd (none.0 found.0 found.1 (sym found.2))
            | inr l ↦
                let used : 0 < time_at h.cells c = (let time = timed.times c cell in let some : 0 < last c = l.3 in omega arith) in
                let own : TableEntry = record { cell = c; value = value_at h.cells c; time = time_at h.cells c } in
                in-map (λ e. e.cell) own entries (contains-in own entries (is.all_set c used))
          ]

      are-table : entries ≡ table i input n
      unfolding table table_of
      are-table =
          mapped (last_entry ts (time_of n 0)) entries (λ e m. (entry-last e m).0)
          ∙ ap (map (last_entry ts (time_of n 0))) (same-rising (map (λ e. e.cell) entries) (rising (map (λ t. t.cell) ts)) is.rising (rising-rises (map (λ t. t.cell) ts)) to-used from-used)

pub touched-table : TouchedIsTable
touched-table i input n h entries program bytes shows timed is = are-table i input program bytes n h entries shows timed is
