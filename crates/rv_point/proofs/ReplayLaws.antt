-- A replay from the start of some rows makes these rows: what it stands for is the run in the cells that they use.
use Rattle.std.proofs.Common.{◌≡◌, ◌⊎◌, ℕ, zero, suc, ◌+◌, ◌-◌, ◌<◌, ◌≤◌, Bool, true, false, cond, ◌||◌, ◌&&◌, ◌==◌, nat_le, nat_lt, List, [], ◌∷◌, ◌++◌, length, take, min, map, option_map, unwrap_or, Option, Some, None, IsTrue, refl, sym, ◌∙◌, ap, subst, inl, inr, arith, append_assoc}
use Rattle.std.specs.List.{AllByRecursion, flat_map}
use Rattle.std.specs.Int.{w32, to_le_bytes}
use Rattle.std.proofs.lemmas.List.{length-append, length-take}
use Rattle.std.proofs.lemmas.List.Elements.{filter-append}
use Rattle.std.proofs.lemmas.Bool.{eqb-true, eqb-false, eq-eqb, leb-true, leb-false, lt-leb}
use Rattle.rv_base.specs.declared.cells.TheConstants.{REGISTER_CELLS, RESERVATION_CELL}
use Rattle.rv_base.specs.declared.record.TableEntry.{TableEntry}
use Rattle.rv_base.specs.declared.record.Tuple.{Tuple}
use Rattle.rv_spec.specs.Words.{AreBytes}
use Rattle.rv_spec.specs.Elf.{Image}
use Rattle.rv_spec.specs.Step.{State}
use Rattle.rv_spec.specs.Run.{run, next_state}
use Rattle.rv_spec.specs.Cells.{is_cell, value, initial_value, time_of}
use Rattle.rv_spec.specs.Visits.{Use, Visit, visit, step_uses, visits}
use Rattle.rv_spec.specs.Trace.{access, tuples_left, history, last_use, left_at, row, rows}
use Rattle.rv_rules.specs.Agreement.{IsState, IsProgram}
use Rattle.rv_spec.specs.Grammar.{IsRising}
use Rattle.rv_rules.specs.Membership.{In}
use Rattle.rv_rules.proofs.Lemmas.{in-append, in-left, in-right, in-map, in-map-back, all-in, all-of, rising-in, in-rising, rising-rises}
use Rattle.rv_mem.specs.Contents.{value_at, time_at, entry_at}
use Rattle.rv_isa.specs.HartState.{HartState, StandsFor, IsTimed}
use Rattle.rv_isa.specs.Hart.{left_after, row_from, TakesStepFrom, TakesTimes}
use Rattle.rv_isa.specs.Resumed.{HoldsListed, IsKnown}
use Rattle.rv_isa.proofs.Lemmas.{run-version, runs-are-states, runs-fit, holds-last-uses}
use Rattle.rv_point.specs.SameSteps.{IsSameStep}
use Rattle.rv_point.specs.Start.{cell_at, cells_of}
use Rattle.rv_point.specs.Replays.{among, known, IsAlike, ReplaysBegin, ReplaysStep}
use Rattle.rv_point.proofs.Kept.{Spares, next-keeps}
use Rattle.rv_point.proofs.LatestUse.{of_cells, kept-in, last_use-kept, last_use-dropped}
use Rattle.rv_point.proofs.LeftTuples.{left_by, left_from, history-early, rows-cells}
use Rattle.rv_point.proofs.RunFirsts.{left_of}
use Rattle.rv_point.proofs.SharedSteps.{shared-step}

-- ---- lists

pub in-among : (c : ℕ) (cs : List ℕ) → In c cs → among cs c ≡ true
in-among c [] m = absurd m
in-among c (d ∷ ds) (inl same) = ap (λ b. b || among ds c) (eq-eqb d c (sym same))
in-among c (d ∷ ds) (inr m) = elim (d == c) as (λ b. (b || among ds c) ≡ true) [ true ↦ refl | false ↦ in-among c ds m ]

pub among-in : (c : ℕ) (cs : List ℕ) → among cs c ≡ true → In c cs
among-in c [] e = absurd cc
among-in c (d ∷ ds) e =
    elim (d == c) as (λ b. (d == c) ≡ b → (b || among ds c) ≡ true → In c (d ∷ ds)) [
      | true ↦ λ is t. inl (sym (eqb-true d c is))
      | false ↦ λ is t. inr (among-in c ds t)
    ] refl e

map-same : {A B : Type 0} (f g : A → B) (xs : List A) → ((x : A) → In x xs → f x ≡ g x) → map f xs ≡ map g xs
map-same f g [] h = refl
map-same f g (x ∷ xs) h =
    let first : f x ≡ g x = h x (inl refl) in
    let rest = map-same f g xs (λ y m. h y (inr m)) in
    λ i. first i ∷ rest i

same-at : {A B : Type 0} (f g : A → B) (xs : List A) → map f xs ≡ map g xs → (x : A) → In x xs → f x ≡ g x
same-at f g [] e x m = absurd m
same-at f g (y ∷ ys) e x (inl same) = (let first : f y ≡ g y = cc in ap f same ∙ first ∙ ap g (sym same))
same-at f g (y ∷ ys) e x (inr m) = (let rest : map f ys ≡ map g ys = cc in same-at f g ys rest x m)

-- tuples of listed cells all stay
kept-all : (p : ℕ → Bool) (ts : List Tuple) → ((w : Tuple) → In w ts → p w.cell ≡ true) → of_cells p ts ≡ ts
kept-all p [] h = refl
kept-all p (x ∷ xs) h =
    let rest = kept-all p xs (λ w m. h w (inr m)) in
    ap (λ b. cond b (x ∷ of_cells p xs) (of_cells p xs)) (h x (inl refl)) ∙ ap (λ (ts : List Tuple). x ∷ ts) rest

-- the entry of a listed cell is found
found-entry : (f : ℕ → TableEntry) → ((c : ℕ) → (f c).cell ≡ c) → (cs : List ℕ) (c : ℕ) → In c cs → entry_at (map f cs) c ≡ Some (f c)
found-entry f own [] c m = absurd m
found-entry f own (d ∷ ds) c m =
    elim ((f d).cell == c) as (λ b. ((f d).cell == c) ≡ b → cond b (Some (f d)) (entry_at (map f ds) c) ≡ Some (f c)) [
      | true ↦ λ is. (let same : d ≡ c = sym (own d) ∙ eqb-true (f d).cell c is in ap (λ x. Some (f x)) same)
      | false ↦ λ is. elim m [
        | inl same ↦ absurd (eqb-false (f d).cell c is (own d ∙ sym same))
        | inr k ↦ found-entry f own ds c k
      ]
    ] refl

no-entry : (f : ℕ → TableEntry) → ((c : ℕ) → (f c).cell ≡ c) → (cs : List ℕ) (c : ℕ) → among cs c ≡ false → entry_at (map f cs) c ≡ None
no-entry f own [] c e = refl
no-entry f own (d ∷ ds) c e =
    let moved : (d == c) ≡ ((f d).cell == c) = ap (λ x. x == c) (sym (own d)) in
    elim (d == c) as (λ b. (d == c) ≡ b → (b || among ds c) ≡ false → cond ((f d).cell == c) (Some (f d)) (entry_at (map f ds) c) ≡ None) [
      | true ↦ λ is t. absurd (let no : ⊥ = cc in no)
      | false ↦ λ is t. ap (λ b. cond b (Some (f d)) (entry_at (map f ds) c)) (sym moved ∙ is) ∙ no-entry f own ds c t
    ] refl e

-- a use that writes the cell, or none
writes-or-spares : (c : ℕ) (us : List Use) → Spares c us ⊎ ((u : Use) × In u us × (5 < u.slot) × (u.cell ≡ c))
writes-or-spares c [] = inl tt
writes-or-spares c (u ∷ us) = elim (writes-or-spares c us) [
  | inr w ↦ inr (w.0, inr w.1, w.2, w.3)
  | inl rest ↦ elim (u.cell == c) as (λ b. (u.cell == c) ≡ b → Spares c (u ∷ us) ⊎ ((x : Use) × In x (u ∷ us) × (5 < x.slot) × (x.cell ≡ c))) [
    | false ↦ λ is. inl ((λ late. eqb-false u.cell c is), rest)
    | true ↦ λ is. elim (nat_le u.slot 5) as (λ b. nat_le u.slot 5 ≡ b → Spares c (u ∷ us) ⊎ ((x : Use) × In x (u ∷ us) × (5 < x.slot) × (x.cell ≡ c))) [
      | true ↦ λ low. inl ((λ late. absurd (let le : u.slot ≤ 5 = leb-true u.slot 5 low in omega arith)), rest)
      | false ↦ λ high. inr (u, inl refl, leb-false u.slot 5 high, eqb-true u.cell c is)
    ] refl
  ] refl
]

module _ (i : Image) (input : List ℕ) where
  pub left_from-split : (a b k : ℕ) → left_from i input k (a + b) ≡ left_from i input k a ++ left_from i input (k + a) b
  left_from-split zero b k =
      let none : 0 + b ≡ b = omega arith in
      let same : k ≡ k + 0 = omega arith in
      ap (left_from i input k) none ∙ ap (λ x. left_from i input x b) same
  left_from-split (suc a) b k =
      let more : suc a + b ≡ suc (a + b) = omega arith in
      let same : k + 1 + a ≡ k + suc a = omega arith in
      ap (left_from i input k) more ∙ ap (λ (ts : List Tuple). left_by i input k ++ ts) (left_from-split a b (k + 1) ∙ ap (λ x. left_from i input (k + 1) a ++ left_from i input x b) same)
      ∙ sym (append_assoc (left_by i input k) (left_from i input (k + 1) a) (left_from i input (k + suc a) b))

  module _ (states : (m : ℕ) → IsState (run i input m) × ((run i input m).position ≤ length input)) (k n : ℕ) where
    -- the cells that the rows use
    abbrev listed : List ℕ
    listed = cells_of (rows i input k n)

    abbrev is_listed : ℕ → Bool
    is_listed c = among listed c

    abbrev seen : ℕ → List Tuple
    seen j = known i input k n j

    left-listed : (m : ℕ) → m < n → (w : Tuple) → In w (left_by i input (k + m)) → In w.cell listed
    left-listed m less w h =
        let r : ℕ = n - m - 1 in
        let all : n ≡ m + suc r = omega arith in
        let split : left_from i input k n ≡ left_from i input k m ++ (left_by i input (k + m) ++ left_from i input (k + m + 1) r) = ap (left_from i input k) all ∙ left_from-split m (suc r) k in
        let there : In w (left_from i input k n) = subst (λ (ts : List Tuple). In w ts) (sym split) (in-right w (left_from i input k m) (left_by i input (k + m) ++ left_from i input (k + m + 1) r) (in-left w (left_by i input (k + m)) (left_from i input (k + m + 1) r) h)) in
        rising-in w.cell (flat_map (λ r. map (λ a. a.cell) r.accesses) (rows i input k n)) (subst (λ (cs : List ℕ). In w.cell cs) (sym (rows-cells i input n k)) (in-map (λ (t : Tuple). t.cell) w (left_from i input k n) there))

    use-listed : (m : ℕ) → m < n → (u : Use) → In u (step_uses input (run i input (k + m))) → In u.cell listed
    unfolding visits
    use-listed m less u h =
        let s : State = run i input (k + m) in
        let vs : List Visit = map (visit s (next_state input s)) (step_uses input s) in
        left-listed m less (left_of (k + m) (visit s (next_state input s) u)) (in-map (left_of (k + m)) (visit s (next_state input s) u) vs (in-map (visit s (next_state input s)) u (step_uses input s) h))

    -- ---- one row

    module _ (m : ℕ) (t : State) (less : m < n) (is : IsState t) (version : t.version ≡ (run i input (k + m)).version) (alike : IsAlike i input k n m t) where
      abbrev s : State
      s = run i input (k + m)

      abbrev us : List Use
      us = step_uses input s

      pub same : IsSameStep input s t
      same = shared-step input s t (states (k + m)).0 is (states (k + m)).1 (record {
        version = version;
        pc = alike.pc;
        position = alike.position;
        held = all-of (λ u. value t u.cell ≡ value s u.cell) us (λ u h. alike.held u.cell (use-listed m less u h));
      })

      pub left-same : left_after input t (seen (k + m)) (k + m) ≡ seen (suc (k + m))
      unfolding history visits
      left-same =
          let own : of_cells is_listed (left_by i input (k + m)) ≡ left_by i input (k + m) = kept-all is_listed (left_by i input (k + m)) (λ w h. in-among w.cell listed (left-listed m less w h)) in
          ap (λ (vs : List Visit). seen (k + m) ++ tuples_left (k + m) vs) same.visits ∙ ap (λ (ts : List Tuple). seen (k + m) ++ ts) (sym own)
          ∙ sym (filter-append (λ (w : Tuple). is_listed w.cell) (history i input (k + m)) (left_by i input (k + m)))

      pub row-same : row_from input t (seen (k + m)) (k + m) ≡ row i input (k + m)
      unfolding visits
      row-same =
          let j : ℕ = k + m in
          let all : List Tuple = history i input (suc j) in
          let vs : List Visit = map (visit s (next_state input s)) us in
          let times : map (access (seen (suc j)) j) vs ≡ map (access all j) vs = map-same (access (seen (suc j)) j) (access all j) vs (λ v h. (
          let u = in-map-back (visit s (next_state input s)) v us h in
          let cell : v.cell ≡ u.0.cell = ap (λ (z : Visit). z.cell) u.2 in
          let here : is_listed v.cell ≡ true = ap is_listed cell ∙ in-among u.0.cell listed (use-listed m less u.0 u.1) in
          let prev : last_use (seen (suc j)) v.cell (time_of j v.slot) ≡ last_use all v.cell (time_of j v.slot) = last_use-kept is_listed all v.cell (time_of j v.slot) here in
          λ x. record { slot = v.slot; cell = v.cell; old = v.old; prev = prev x; new = v.new }
          )) in
          let accesses : map (access (left_after input t (seen j) j) j) (visits input t) ≡ map (access all j) (visits input s) = (λ x. map (access (left-same x) j) (same.visits x)) ∙ times in
          λ x. record { pc = alike.pc x; next = same.pc x; accesses = accesses x }

      -- the new value of a written cell is that of the run
      written-same : (u : Use) → In u us → 5 < u.slot → value (next_state input t) u.cell ≡ value (next_state input s) u.cell
      unfolding visits
      written-same u h high =
          let to : map (visit t (next_state input t)) us ≡ map (visit s (next_state input s)) us = ap (map (visit t (next_state input t))) (sym same.uses) ∙ same.visits in
          let one : visit t (next_state input t) u ≡ visit s (next_state input s) u = same-at (visit t (next_state input t)) (visit s (next_state input s)) us to u h in
          let late : nat_le u.slot 5 ≡ false = lt-leb u.slot 5 high in
          sym (ap (λ b. cond b (value t u.cell) (value (next_state input t) u.cell)) late) ∙ ap (λ (v : Visit). v.new) one ∙ ap (λ b. cond b (value s u.cell) (value (next_state input s) u.cell)) late

      pub next-alike : IsAlike i input k n (m + 1) (next_state input t)
      unfolding run
      next-alike =
          let to : suc (k + m) ≡ k + (m + 1) = omega arith in
          let at : next_state input s ≡ run i input (k + (m + 1)) = ap (run i input) to in
          record {
            pc = same.pc ∙ ap (λ (z : State). z.pc) at;
            position = same.position ∙ ap (λ (z : State). z.position) at;
            held = λ c h. elim (writes-or-spares c us) [
              | inl spares ↦ next-keeps input t c (subst (Spares c) (sym same.uses) spares) ∙ alike.held c h ∙ sym (next-keeps input s c spares)
              | inr w ↦ ap (value (next_state input t)) (sym w.3) ∙ written-same w.0 w.1 w.2 ∙ ap (value (next_state input s)) w.3
            ] ∙ ap (λ (z : State). value z c) at;
          }

    -- ---- the start

    abbrev entries : List TableEntry
    entries = map (cell_at i input k) listed

    value-listed : (c : ℕ) → In c listed → value_at (record { image = i; touched = entries }) c ≡ value (run i input k) c
    unfolding value_at
    value-listed c h = ap (λ (o : Option TableEntry). unwrap_or (option_map (λ e. e.value) o) (value_at (record { image = i; touched = [] }) c)) (found-entry (cell_at i input k) (λ d. refl) listed c h)

    time-listed : (c : ℕ) → time_at (record { image = i; touched = entries }) c ≡ last_use (seen k) c (time_of k 0)
    unfolding time_at
    time-listed c = elim (is_listed c) as (λ b. is_listed c ≡ b → time_at (record { image = i; touched = entries }) c ≡ last_use (seen k) c (time_of k 0)) [
      | true ↦ λ e. ap (λ (o : Option TableEntry). unwrap_or (option_map (λ e. e.time) o) 0) (found-entry (cell_at i input k) (λ d. refl) listed c (among-in c listed e)) ∙ sym (last_use-kept is_listed (history i input k) c (time_of k 0) e)
      | false ↦ λ e. ap (λ (o : Option TableEntry). unwrap_or (option_map (λ e. e.time) o) 0) (no-entry (cell_at i input k) (λ d. refl) listed c e) ∙ sym (last_use-dropped is_listed (history i input k) c (time_of k 0) e)
    ] refl

    -- a hart that goes on from these cells stands for a state like the run's, with the times of the last uses
    module _ (h : HartState) (t : State) (holds : HoldsListed h i entries) (stands : StandsFor h t) where
      pub first-alike : h.pc ≡ (run i input k).pc → h.position ≡ (run i input k).position → ((c : ℕ) → In c listed → IsTrue (is_cell 2 c)) → IsAlike i input k n 0 t
      first-alike pc position cells =
          let to : k ≡ k + 0 = omega arith in
          record {
            pc = sym stands.pc ∙ pc ∙ ap (λ m. (run i input m).pc) to;
            position = sym stands.position ∙ position ∙ ap (λ m. (run i input m).position) to;
            held = λ c m. sym (stands.cells c (cells c m)) ∙ holds.values c ∙ value-listed c m ∙ ap (λ x. value (run i input x) c) to;
          }

      pub first-timed : IsTimed h (seen k) k
      first-timed = record {
        times = λ c is. holds.times c ∙ time-listed c;
        earlier = all-of (λ w. w.time < time_of k 0) (seen k) (λ w m. history-early i input k w (kept-in is_listed w (history i input k) m).0);
      }

-- ---- the laws

-- what some steps leave is left by one of them
left-step : (i : Image) (input : List ℕ) (n k : ℕ) (w : Tuple) → In w (left_from i input k n) → (j : ℕ) × In w (left_by i input j)
left-step i input zero k w m = absurd m
left-step i input (suc n) k w m = elim (in-append w (left_by i input k) (left_from i input (k + 1) n) m) [ inl h ↦ (k, h) | inr h ↦ left-step i input n (k + 1) w h ]

-- a cell of a version is one of the second
either-version : (p x y : Bool) → IsTrue (p || x && y) → IsTrue (p || y)
either-version true x y h = h
either-version false true y h = h
either-version false false y h = absurd cc

-- a cell that rows use is one of a machine
use-known : (i : Image) (input : List ℕ) (program : IsProgram i) (bytes : AreBytes input) (k n c : ℕ) → In c (cells_of (rows i input k n)) → IsTrue (is_cell 2 c)
unfolding visits
use-known i input program bytes k n c m =
    let raw : List ℕ = flat_map (λ r. map (λ a. a.cell) r.accesses) (rows i input k n) in
    let w = in-map-back (λ (t : Tuple). t.cell) c (left_from i input k n) (subst (λ (cs : List ℕ). In c cs) (rows-cells i input n k) (in-rising c raw m)) in
    let j = left-step i input n k w.0 w.1 in
    let s : State = run i input j.0 in
    let v = in-map-back (left_of j.0) w.0 (map (visit s (next_state input s)) (step_uses input s)) j.1 in
    let u = in-map-back (visit s (next_state input s)) v.0 (step_uses input s) v.1 in
    let cell : c ≡ u.0.cell = w.2 ∙ ap (λ (z : Tuple). z.cell) v.2 ∙ ap (λ (z : Visit). z.cell) u.2 in
    let here : IsTrue (is_cell i.version u.0.cell) = (all-in (λ u. IsTrue (is_cell i.version u.cell) × (u.cell < RESERVATION_CELL + 1)) (step_uses input s) (runs-fit i input program bytes j.0).cells u.0 u.1).0 in
    subst (λ x. IsTrue (is_cell 2 x)) (sym cell)
    (either-version (nat_lt u.0.cell REGISTER_CELLS || nat_lt REGISTER_CELLS u.0.cell && nat_lt u.0.cell RESERVATION_CELL) (i.version == 2) (u.0.cell == RESERVATION_CELL) here)

pub replays-begin : ReplaysBegin
replays-begin i input k n h t program bytes image input_is pc position holds stands =
    let states = runs-are-states i input program bytes in
    let to : k ≡ k + 0 = omega arith in
    record {
      image = image;
      input_is = input_is;
      state = t;
      stands = stands;
      alike = first-alike i input states k n h t holds stands pc position (λ c m. use-known i input program bytes k n c m);
      timed = subst (λ j. IsTimed h (known i input k n j) j) to (first-timed i input states k n h t holds stands);
    }

-- bytes in front of others
same-behind : (xs ys zs : List ℕ) → xs ++ ys ≡ xs ++ zs → ys ≡ zs
same-behind [] ys zs e = e
same-behind (x ∷ xs) ys zs e = same-behind xs ys zs cc

pub replays-step : ReplaysStep
unfolding run
replays-step i input k n m old new x s program bytes less r image input_is takes times =
    let states = runs-are-states i input program bytes in
    let t : State = r.state in
    let j : ℕ = k + m in
    let version : t.version ≡ (run i input j).version = sym r.stands.version ∙ ap (λ (a : Image). a.version) r.image ∙ sym (run-version i input j) in
    let step_is : TakesStepFrom input t s new = subst (λ (b : List ℕ). TakesStepFrom b t s new) r.input_is (takes t r.stands) in
    let times_are : TakesTimes input t (known i input k n j) j x new = subst (λ (b : List ℕ). TakesTimes b t (known i input k n j) j x new) r.input_is (times t (known i input k n j) r.stands r.timed) in
    let same : IsSameStep input (run i input j) t = same i input states k n m t less r.stands.ranges version r.alike in
    let to : suc j ≡ k + (m + 1) = omega arith in
    let next : j + 1 ≡ k + (m + 1) = omega arith in
    let put : take s.put (to_le_bytes w32 s.word) ≡ same.bytes = same-behind t.output (take s.put (to_le_bytes w32 s.word)) same.bytes (step_is.output ∙ same.same_put) in
    let count : s.put ≡ length same.bytes = sym (length-take s.put (to_le_bytes w32 s.word) ∙ (let most = step_is.most in let four : min s.put 4 ≡ s.put = omega arith in four)) ∙ ap length put in
    record {
      is = times_are.row ∙ row-same i input states k n m t less r.stands.ranges version r.alike;
      replaying = record {
        image = image ∙ r.image;
        input_is = input_is ∙ r.input_is;
        state = next_state input t;
        stands = step_is.stands;
        alike = next-alike i input states k n m t less r.stands.ranges version r.alike;
        timed = subst (λ x. IsTimed new (known i input k n x) (k + (m + 1))) to
            (subst (λ x. IsTimed new (known i input k n (suc j)) x) next (subst (λ (ts : List Tuple). IsTimed new ts (j + 1)) (left-same i input states k n m t less r.stands.ranges version r.alike) times_are.timed));
      };
      few = step_is.most;
      put = (let long : length (run i input (suc j)).output ≡ length (run i input j).output + length same.bytes = ap length same.put ∙ length-append (run i input j).output same.bytes in let there : length (run i input (suc j)).output ≡ length (run i input (k + (m + 1))).output = ap (λ x. length (run i input x).output) to in omega arith);
    }

-- the entries of a start are known
pub start-known : (i : Image) (input : List ℕ) (program : IsProgram i) (bytes : AreBytes input) (k n : ℕ) → let es = map (cell_at i input k) (cells_of (rows i input k n)) in
    IsRising (map (λ e. e.cell) es) × AllByRecursion (IsKnown i) es
start-known i input program bytes k n =
    let cs : List ℕ = cells_of (rows i input k n) in
    let raw : List ℕ = flat_map (λ r. map (λ a. a.cell) r.accesses) (rows i input k n) in
    let es : List TableEntry = map (cell_at i input k) cs in (
      subst IsRising (sym (own-cells cs)) (rising-rises raw),
      all-of (IsKnown i) es (λ e m. (
          let c = in-map-back (cell_at i input k) e cs m in
          subst (IsKnown i) (sym c.2) (record {
            cell = use-known i input program bytes k n c.0 c.1;
            unused = λ none. holds-last-uses i input k c.0 ∙ ap (λ t. cond (t == 0) (initial_value i c.0) (left_at (history i input k) c.0 t)) none;
          })
          )),
    )
  where
    own-cells : (cs : List ℕ) → map (λ e. e.cell) (map (cell_at i input k) cs) ≡ cs
    own-cells [] = refl
    own-cells (c ∷ cs) = ap (λ (ds : List ℕ). c ∷ ds) (own-cells cs)
