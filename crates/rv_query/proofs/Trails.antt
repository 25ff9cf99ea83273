-- The trails of cells, past one access more.
use Rattle.std.proofs.Common.{◌≡◌, ℕ, ◌+◌, ◌<◌, ◌≤◌, Bool, true, false, cond, not, ◌==◌, ◌&&◌, nat_lt, List, [], ◌∷◌, ◌++◌, length, map, get_or, set, Option, Some, None, option_map, unwrap_or, refl, sym, ap, ◌∙◌, subst, append_assoc, append-nil, length-set, get_or-set_same, get_or-set_other, ◌≢◌, filter, inl, inr, eqb-true, arith}
use Rattle.std.specs.List.{range_with_len}
use Rattle.std.proofs.lemmas.Bool.{eq-eqb, ne_eqb, ltb-true, ltb-false, lt-ltb, cases_lt}
use Rattle.std.proofs.lemmas.List.FromFn.{get_or-map-range_with_len, fill_by_all}
use Rattle.rv_spec.specs.Cells.{time_of}
use Rattle.rv_query.specs.Accesses.{Numbered, own_time, latest, last_access, last_change}
use Rattle.rv_query.specs.Following.{trail, AreTrails, GoPast}
use Rattle.rv_query.specs.declared.trail.Trail.{Trail}
use Rattle.rv_query.proofs.Latest.{time_in, counts, changes, last-next, change-next, change-kept, before-kept}

-- the trail that these two accesses show
abbrev pub shown : ℕ → Option Numbered → Option Numbered → Trail
shown initial last change = record {
  value = unwrap_or (option_map (λ a. a.access.new) last) initial;
  time = time_in last;
  changed = option_map (λ a. a.step) change;
  changed_time = time_in change;
}

pub trail-shown : (initial : ℕ) (xs : List Numbered) (c s : ℕ) → trail initial xs c s ≡ shown initial (last_access xs c s) (last_change xs c s)
unfolding trail
trail-shown initial xs c s = refl

pub untouched : (initial c s : ℕ) → trail initial [] c s ≡ record { value = initial; time = 0; changed = None; changed_time = 0 }
unfolding trail latest
untouched initial c s = refl

pub counted : (c s : ℕ) (a : Numbered) → a.access.cell ≡ c → own_time a < time_of s 0 → counts c s a ≡ true
counted c s a cell early = ap (λ b. b && nat_lt (own_time a) (time_of s 0)) (eq-eqb a.access.cell c cell) ∙ lt-ltb (own_time a) (time_of s 0) early

pub uncounted : (c s : ℕ) (a : Numbered) → (a.access.cell ≡ c → own_time a < time_of s 0 → ⊥) → counts c s a ≡ false
uncounted c s a not_so = go (a.access.cell == c) (nat_lt (own_time a) (time_of s 0)) refl refl
  where
    go : (p q : Bool) → (a.access.cell == c) ≡ p → nat_lt (own_time a) (time_of s 0) ≡ q → (p && q) ≡ false
    go true true e f = absurd (not_so (eqb-true a.access.cell c e) (ltb-true (own_time a) (time_of s 0) f))
    go true false e f = refl
    go false q e f = refl

-- ---- one cell

-- what stands behind an access, where a field of the trail is kept only if its time is later
pub with-last : (initial : ℕ) (last change : Option Numbered) (a : Numbered) (t r : Trail) → t ≡ shown initial last change
    → (own_time a < t.time → r ≡ t) → (t.time ≤ own_time a → r ≡ record t { value = a.access.new; time = own_time a })
    → r ≡ shown initial (cond (nat_lt (own_time a) (time_in last)) last (Some a)) change
with-last initial last change a t r is kept new = go (nat_lt (own_time a) (time_in last)) refl
  where
    timed : t.time ≡ time_in last
    timed = ap (λ (u : Trail). u.time) is

    go : (b : Bool) → nat_lt (own_time a) (time_in last) ≡ b → r ≡ shown initial (cond b last (Some a)) change
    go true e = let less : own_time a < time_in last = ltb-true (own_time a) (time_in last) e in kept (omega (arith, less, timed)) ∙ is
    go false e =
        let more : time_in last ≤ own_time a = ltb-false (own_time a) (time_in last) e in
        new (omega (arith, more, timed)) ∙ ap (λ (u : Trail). record u { value = a.access.new; time = own_time a }) is

pub with-change : (initial : ℕ) (last change : Option Numbered) (a : Numbered) (t r : Trail) → t ≡ shown initial last change
    → (own_time a < t.changed_time → r ≡ t) → (t.changed_time ≤ own_time a → r ≡ record t { changed = Some a.step; changed_time = own_time a })
    → r ≡ shown initial last (cond (nat_lt (own_time a) (time_in change)) change (Some a))
with-change initial last change a t r is kept new = go (nat_lt (own_time a) (time_in change)) refl
  where
    timed : t.changed_time ≡ time_in change
    timed = ap (λ (u : Trail). u.changed_time) is

    go : (b : Bool) → nat_lt (own_time a) (time_in change) ≡ b → r ≡ shown initial last (cond b change (Some a))
    go true e = let less : own_time a < time_in change = ltb-true (own_time a) (time_in change) e in kept (omega (arith, less, timed)) ∙ is
    go false e =
        let more : time_in change ≤ own_time a = ltb-false (own_time a) (time_in change) e in
        new (omega (arith, more, timed)) ∙ ap (λ (u : Trail). record u { changed = Some a.step; changed_time = own_time a }) is

module _ (initial : ℕ) (xs : List Numbered) (c s : ℕ) (a : Numbered) (t r : Trail) (cell : a.access.cell ≡ c) (early : own_time a < time_of s 0) (is : t ≡ trail initial xs c s)
    (kept : own_time a < t.time → r ≡ t) (new : t.time ≤ own_time a → r ≡ record t { value = a.access.new; time = own_time a }) where
  seen : r ≡ shown initial (last_access (xs ++ a ∷ []) c s) (last_change xs c s)
  seen = with-last initial (last_access xs c s) (last_change xs c s) a t r (is ∙ trail-shown initial xs c s) kept new
      ∙ ap (λ l. shown initial l (last_change xs c s)) (sym (last-next c s xs a (counted c s a cell early)))

  -- past an access that changes nothing
  pub past-read : a.access.new ≡ a.access.old → r ≡ trail initial (xs ++ a ∷ []) c s
  past-read same = seen
      ∙ ap (shown initial (last_access (xs ++ a ∷ []) c s)) (sym (change-kept c s xs a (counted c s a cell early) (ap not (eq-eqb a.access.new a.access.old same))))
      ∙ sym (trail-shown initial (xs ++ a ∷ []) c s)

  -- past one that changes the value
  pub past-change : (a.access.new ≢ a.access.old) → (q : Trail) → (own_time a < r.changed_time → q ≡ r) → (r.changed_time ≤ own_time a → q ≡ record r { changed = Some a.step; changed_time = own_time a })
      → q ≡ trail initial (xs ++ a ∷ []) c s
  past-change other q as_before changed =
      with-change initial (last_access (xs ++ a ∷ []) c s) (last_change xs c s) a r q seen as_before changed
      ∙ ap (shown initial (last_access (xs ++ a ∷ []) c s)) (sym (change-next c s xs a (counted c s a cell early) (ap not (ne_eqb a.access.new a.access.old other))))
      ∙ sym (trail-shown initial (xs ++ a ∷ []) c s)

-- an access to another cell, or not before the step, leaves the trail
trail-kept : (initial : ℕ) (xs : List Numbered) (c s : ℕ) (a : Numbered) → (a.access.cell ≡ c → own_time a < time_of s 0 → ⊥) → trail initial (xs ++ a ∷ []) c s ≡ trail initial xs c s
unfolding trail
trail-kept initial xs c s a not_so = ap (λ l. shown initial (latest l) (latest (filter changes l))) (before-kept c s xs a (uncounted c s a not_so))

-- ---- consecutive cells

abbrev pub no_trail : Trail
no_trail = record { value = 0; time = 0; changed = None; changed_time = 0 }

module _ (initial : ℕ → ℕ) (xs : List Numbered) (first s : ℕ) where
  abbrev of_cell : List Numbered → ℕ → Trail
  of_cell ys j = trail (initial (first + j)) ys (first + j) s

  pub trail-at : (ts : List Trail) (j : ℕ) (d : Trail) → AreTrails initial xs first s ts → j < length ts → get_or ts j d ≡ of_cell xs j
  trail-at ts j d are less = ap (λ l. get_or l j d) are ∙ get_or-map-range_with_len (of_cell xs) 0 (length ts) j j d less (omega arith)

  -- an access that counts for none of the cells
  pub passed-none : (ts : List Trail) (a : Numbered) → ((j : ℕ) → j < length ts → a.access.cell ≡ first + j → own_time a < time_of s 0 → ⊥) → AreTrails initial xs first s ts → AreTrails initial (xs ++ a ∷ []) first s ts
  passed-none ts a not_so are = fill_by_all (of_cell (xs ++ a ∷ [])) ts (length ts) no_trail refl
      (λ k less. trail-at ts k no_trail are less ∙ sym (trail-kept (initial (first + k)) xs (first + k) s a (not_so k less)))

  -- one that counts for the cell at a place
  pub passed-one : (ts : List Trail) (a : Numbered) (j : ℕ) (x : Trail) → j < length ts → a.access.cell ≡ first + j → x ≡ of_cell (xs ++ a ∷ []) j
      → AreTrails initial xs first s ts → AreTrails initial (xs ++ a ∷ []) first s (set ts j x)
  passed-one ts a j x within cell is are =
      subst (λ n. set ts j x ≡ map (of_cell (xs ++ a ∷ [])) (range_with_len 0 n)) (sym (length-set ts j x))
      (fill_by_all (of_cell (xs ++ a ∷ [])) (set ts j x) (length ts) no_trail (length-set ts j x) (λ k less. elim (cases_lt k j) [
        | inl below ↦ other k less (omega (arith, below))
        | inr above ↦ elim (cases_lt j k) [
          | inl over ↦ other k less (omega (arith, over))
          | inr same ↦ (let e : j ≡ k = omega (arith, above, same) in subst (λ n. get_or (set ts j x) n no_trail ≡ of_cell (xs ++ a ∷ []) n) e (get_or-set_same ts j x no_trail within ∙ is))
        ]
      ]))
    where
      other : (k : ℕ) → k < length ts → k ≢ j → get_or (set ts j x) k no_trail ≡ of_cell (xs ++ a ∷ []) k
      other k less differ = get_or-set_other ts j k x no_trail differ ∙ trail-at ts k no_trail are less
          ∙ sym (trail-kept (initial (first + k)) xs (first + k) s a (λ same early. absurd (differ (omega (arith, cell, same)))))

-- ---- accesses in a row

pub past-none : (first s : ℕ) (ts : List Trail) → GoPast first s ts ts []
past-none first s ts initial before are = subst (λ l. AreTrails initial l first s ts) (sym (append-nil before)) are

pub past-both : (first s : ℕ) (ts us vs : List Trail) (xs ys : List Numbered) → GoPast first s ts us xs → GoPast first s us vs ys → GoPast first s ts vs (xs ++ ys)
past-both first s ts us vs xs ys one two initial before are = subst (λ l. AreTrails initial l first s vs) (append_assoc before xs ys) (two initial (before ++ xs) (one initial before are))
