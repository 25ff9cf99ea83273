-- The accesses of rows that break no rule have times of their own, which rise, and read earlier times.
use Rattle.std.proofs.Common.{◌≡◌, ℕ, suc, ◌+◌, ◌^◌, ◌<◌, ◌≤◌, Bool, true, false, cond, ◌==◌, List, [], ◌∷◌, ◌++◌, length, map, find, option_map, unwrap_or, Some, sym, subst, arith}
use Rattle.std.specs.List.{AllByRecursion}
use Rattle.std.proofs.lemmas.List.{map-append}
use Rattle.rv_base.specs.declared.record.Access.{Access}
use Rattle.rv_base.specs.declared.record.Header.{Header}
use Rattle.rv_base.specs.declared.record.Place.{Place}
use Rattle.rv_base.specs.declared.record.Seen.{Seen}
use Rattle.rv_base.specs.declared.record.TableEntry.{TableEntry}
use Rattle.rv_base.specs.declared.record.Touch.{Touch}
use Rattle.rv_spec.specs.Cells.{time_of}
use Rattle.rv_spec.specs.Trace.{Row}
use Rattle.rv_spec.specs.Tuples.{event, events}
use Rattle.rv_spec.specs.Grammar.{AccessFits, RowFits, IsRising}
use Rattle.rv_rules.specs.Chain.{AllDiffer, AreOrdered}
use Rattle.rv_rules.specs.Reading.{last_of}
use Rattle.rv_rules.specs.RowRules.{old_in, seen, place_after}
use Rattle.rv_rules.proofs.Lemmas.{rising-differ}
use Rattle.rv_sound.specs.Accepted.{RowsHold}
use Rattle.rv_sound.proofs.RowFollows.{touch_in, RowFollows, row-follows}
use Rattle.rv_isa.specs.Shape.{AreShaped}
use Rattle.rv_isa.proofs.Lemmas.{expected-shaped}
use Rattle.rv_sound.proofs.ListLemmas.{all-join, all-map, map-all, all-weaken}

-- ---- numbers that rise

-- the numbers rise from lo on, and all are below hi
abbrev pub Rise : ℕ → ℕ → List ℕ → Type 0
Rise lo hi [] = lo ≤ hi
Rise lo hi (x ∷ xs) = (lo ≤ x) × Rise (x + 1) hi xs

rise-lower : (lo mid hi : ℕ) (xs : List ℕ) → lo ≤ mid → Rise mid hi xs → Rise lo hi xs
rise-lower lo mid hi [] h r = omega (arith, h, r)
rise-lower lo mid hi (x ∷ xs) h r = (omega (arith, h, r.0), r.1)

rise-join : (lo mid hi : ℕ) (xs ys : List ℕ) → Rise lo mid xs → Rise mid hi ys → Rise lo hi (xs ++ ys)
rise-join lo mid hi [] ys h r = rise-lower lo mid hi ys h r
rise-join lo mid hi (x ∷ xs) ys h r = (h.0, rise-join (x + 1) mid hi xs ys h.1 r)

rise-above : (lo hi : ℕ) (xs : List ℕ) → Rise lo hi xs → AllByRecursion (λ y. lo ≤ y) xs
rise-above lo hi [] r = tt
rise-above lo hi (x ∷ xs) r = (r.0, rise-above lo hi xs (rise-lower lo (x + 1) hi xs (omega (arith, r.0)) r.1))

rise-most : (lo hi : ℕ) (xs : List ℕ) → Rise lo hi xs → lo ≤ hi
rise-most lo hi [] r = r
rise-most lo hi (x ∷ xs) r = omega (arith, r.0, rise-most (x + 1) hi xs r.1)

rise-below : (lo hi : ℕ) (xs : List ℕ) → Rise lo hi xs → AllByRecursion (λ y. y < hi) xs
rise-below lo hi [] r = tt
rise-below lo hi (x ∷ xs) r = (omega (arith, rise-most (x + 1) hi xs r.1), rise-below (x + 1) hi xs r.1)

rise-rising : (lo hi : ℕ) (xs : List ℕ) → Rise lo hi xs → IsRising xs
rise-rising lo hi [] r = tt
rise-rising lo hi (x ∷ xs) r = (all-weaken (λ y. x + 1 ≤ y) (λ y. x < y) (λ y h. omega (arith, h)) xs (rise-above (x + 1) hi xs r.1), rise-rising (x + 1) hi xs r.1)

-- ---- a row

-- the old values of a row are words
pub old-fits : (accs : List Access) (slot : ℕ) → AllByRecursion AccessFits accs → old_in accs slot < 2 ^ 32
old-fits [] slot h = omega arith
old-fits (a ∷ accs) slot h = go (a.slot == slot) (old-fits accs slot h.1)
  where
    go : (b : Bool) → old_in accs slot < 2 ^ 32 → unwrap_or (option_map (λ a. a.old) (cond b (Some a) (find (λ a. a.slot == slot) accs))) 0 < 2 ^ 32
    go true rest = h.0.old
    go false rest = rest

-- the slots of a row rise, and each access is as its slot has it
pub row-shaped : (version : ℕ) (r : Row) (k : ℕ) (p : Place) (last : _) (input output : List ℕ) → RowFits r → RowFollows version r k p last input output → AreShaped (seen r.accesses) 1 9 (map touch_in r.accesses)
row-shaped version r k p last input output fits f =
    let v : Seen = seen r.accesses in
    subst (λ (ts : List Touch). AreShaped v 1 9 ts) (sym f.touches) (expected-shaped v version r.pc input p.input (old-fits r.accesses 2 fits.accesses) (old-fits r.accesses 4 fits.accesses))

times-rise : (v : Seen) (k lo hi : ℕ) (accs : List Access) → AreShaped v lo hi (map touch_in accs) → Rise (time_of k lo) (time_of k hi) (map (λ e. e.time) (map (event k) accs))
times-rise v k lo hi [] h = omega (arith, h)
times-rise v k lo hi (a ∷ accs) h = (omega (arith, h.0), rise-lower (time_of k a.slot + 1) (time_of k (a.slot + 1)) (time_of k hi) (map (λ e. e.time) (map (event k) accs)) (omega arith) (times-rise v k (a.slot + 1) hi accs h.2))

-- the accesses of a row come before the next step
pub row-below : (v : Seen) (k : ℕ) (accs : List Access) → AreShaped v 1 9 (map touch_in accs) → AllByRecursion (λ e. e.time < time_of (k + 1) 0) (map (event k) accs)
row-below v k accs shaped =
    all-weaken (λ e. e.time < time_of k 9) (λ e. e.time < time_of (k + 1) 0) (λ e h. omega (arith, h)) (map (event k) accs)
    (map-all (λ y. y < time_of k 9) (λ e. e.time) (map (event k) accs) (rise-below (time_of k 1) (time_of k 9) (map (λ e. e.time) (map (event k) accs)) (times-rise v k 1 9 accs shaped)))

-- ---- rows

module _ (h : Header) (input output : List ℕ) where
  rows-rise : (rs : List Row) (k : ℕ) (p : Place) → RowsHold h input output k p rs → AllByRecursion RowFits rs → Rise (time_of k 0) (time_of (k + length rs) 0) (map (λ e. e.time) (events k rs))
  rows-rise [] k p holds fits = omega arith
  rows-rise (r ∷ rs) k p holds fits =
      let f = row-follows h.version r k p (last_of h k) input output holds.0 in
      let here : Rise (time_of k 1) (time_of k 9) (map (λ e. e.time) (map (event k) r.accesses)) = times-rise (seen r.accesses) k 1 9 r.accesses (row-shaped h.version r k p (last_of h k) input output fits.0 f) in
      let rest : Rise (time_of (k + 1) 0) (time_of (k + 1 + length rs) 0) (map (λ e. e.time) (events (k + 1) rs)) = rows-rise rs (k + 1) (place_after h.version r p input) holds.1 fits.1 in
      let end : time_of (k + 1 + length rs) 0 ≡ time_of (k + suc (length rs)) 0 = omega arith in
      let later : Rise (time_of k 9) (time_of (k + suc (length rs)) 0) (map (λ e. e.time) (events (k + 1) rs)) = rise-lower (time_of k 9) (time_of (k + 1) 0) (time_of (k + suc (length rs)) 0) (map (λ e. e.time) (events (k + 1) rs)) (omega arith) (subst (λ n. Rise (time_of (k + 1) 0) n (map (λ e. e.time) (events (k + 1) rs))) end rest) in
      subst (λ l. Rise (time_of k 0) (time_of (k + suc (length rs)) 0) l) (sym (map-append (λ e. e.time) (map (event k) r.accesses) (events (k + 1) rs)))
      (rise-lower (time_of k 0) (time_of k 1) (time_of (k + suc (length rs)) 0) (map (λ e. e.time) (map (event k) r.accesses) ++ map (λ e. e.time) (events (k + 1) rs)) (omega arith)
      (rise-join (time_of k 1) (time_of k 9) (time_of (k + suc (length rs)) 0) (map (λ e. e.time) (map (event k) r.accesses)) (map (λ e. e.time) (events (k + 1) rs)) here later))

  rows-earlier : (rs : List Row) (k : ℕ) (p : Place) → RowsHold h input output k p rs → AllByRecursion (λ e. e.prev < e.time) (events k rs)
  rows-earlier [] k p holds = tt
  rows-earlier (r ∷ rs) k p holds =
      let f = row-follows h.version r k p (last_of h k) input output holds.0 in
      all-join (λ e. e.prev < e.time) (map (event k) r.accesses) (events (k + 1) rs) (all-map (λ e. e.prev < e.time) (event k) r.accesses f.earlier) (rows-earlier rs (k + 1) (place_after h.version r p input) holds.1)

  -- the accesses of rows from step k on have times from that step's on
  pub rows-late : (rs : List Row) (k : ℕ) (p : Place) → RowsHold h input output k p rs → AllByRecursion RowFits rs → AllByRecursion (λ e. time_of k 0 ≤ e.time) (events k rs)
  rows-late rs k p holds fits = map-all (λ y. time_of k 0 ≤ y) (λ e. e.time) (events k rs) (rise-above (time_of k 0) (time_of (k + length rs) 0) (map (λ e. e.time) (events k rs)) (rows-rise rs k p holds fits))

  -- and below the first time after them
  pub rows-soon : (rs : List Row) (k : ℕ) (p : Place) → RowsHold h input output k p rs → AllByRecursion RowFits rs → AllByRecursion (λ e. e.time < time_of (k + length rs) 0) (events k rs)
  rows-soon rs k p holds fits = map-all (λ y. y < time_of (k + length rs) 0) (λ e. e.time) (events k rs) (rise-below (time_of k 0) (time_of (k + length rs) 0) (map (λ e. e.time) (events k rs)) (rows-rise rs k p holds fits))

  -- no two of them have one time
  pub rows-differ : (rs : List Row) (k : ℕ) (p : Place) → RowsHold h input output k p rs → AllByRecursion RowFits rs → AllDiffer (map (λ e. e.time) (events k rs))
  rows-differ rs k p holds fits = rising-differ (map (λ e. e.time) (events k rs)) (rise-rising (time_of k 0) (time_of (k + length rs) 0) (map (λ e. e.time) (events k rs)) (rows-rise rs k p holds fits))

  -- rows that break no rule are ordered, beside a table whose cells rise and whose times are not 0
  pub ordered : (rs : List Row) (n : ℕ) (p : Place) (table : List TableEntry) → RowsHold h input output 0 p rs → AllByRecursion RowFits rs → length rs ≡ n
      → AllByRecursion (λ t. 0 < t.time) table → IsRising (map (λ t. t.cell) table) → AreOrdered (events 0 rs) table (time_of n 0)
  ordered rs n p table holds fits count late rising =
      let rise : Rise 0 (time_of n 0) (map (λ e. e.time) (events 0 rs)) = subst (λ m. Rise 0 (time_of m 0) (map (λ e. e.time) (events 0 rs))) (let same : 0 + length rs ≡ n = omega (arith, count) in same) (rows-rise rs 0 p holds fits) in
      record {
        differ = rising-differ (map (λ e. e.time) (events 0 rs)) (rise-rising 0 (time_of n 0) (map (λ e. e.time) (events 0 rs)) rise);
        earlier = rows-earlier rs 0 p holds;
        below = map-all (λ y. y < time_of n 0) (λ e. e.time) (events 0 rs) (rise-below 0 (time_of n 0) (map (λ e. e.time) (events 0 rs)) rise);
        after_start = late;
        rising = rising;
      }
