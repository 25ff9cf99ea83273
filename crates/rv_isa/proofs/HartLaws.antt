-- The hart steps as the states that it stands for.
use Rattle.std.proofs.Common.{◌≡◌, ℕ, ◌+◌, ◌-◌, ◌%◌, ◌^◌, ◌<◌, ◌≤◌, Bool, true, false, ◌&&◌, ◌||◌, ◌==◌, nat_lt, List, [], ◌++◌, length, map, take, replicate, refl, sym, ◌∙◌, ap, ap₂, subst, arith, append-nil, IsTrue}
use Rattle.std.specs.List.{AllByRecursion}
use Rattle.std.specs.Int.{w32, to_le_bytes}
use Rattle.std.specs.Coded.{coded_ℕ}
use Rattle.std.proofs.Math.Logic.{∥∥₁_elim, ∥∥₁_map}
use Rattle.std.proofs.Math.Bridge.{le_prop}
use Rattle.std.proofs.Math.Seq.{take-append_seam}
use base.Stored.{Coded-set}
use Rattle.rv_base.specs.declared.record.Seen.{Seen}
use Rattle.rv_base.specs.declared.record.Touch.{Touch}
use Rattle.rv_base.specs.declared.record.Tuple.{Tuple}
use Rattle.rv_spec.specs.Words.{AreBytes}
use Rattle.rv_spec.specs.Elf.{Image}
use Rattle.rv_spec.specs.Step.{State, Transition, Next, Ends, start, step}
use Rattle.rv_spec.specs.Run.{state_after, end_of, next_state}
use Rattle.rv_spec.specs.Cells.{is_cell, reservation_cell, value, initial_value, time_of}
use Rattle.rv_spec.specs.Visits.{Use, visit, visits, step_uses}
use Rattle.rv_spec.specs.Trace.{access, last_use, tuples_left}
use Rattle.rv_rules.specs.Expected as isa
use Rattle.rv_rules.specs.Agreement.{IsState, IsProgram, GoesAs, touch_of}
use Rattle.rv_rules.specs.Membership.{In}
use Rattle.rv_rules.proofs.Lemmas.{all-in, all-of, in-map-back}
use Rattle.rv_mem.specs.Contents.{Contents, value_at, time_at}
use Rattle.rv_mem.specs.Accesses.{accesses_of}
use Rattle.rv_mem.specs.Left.{value_after, time_after, IsLeft}
use Rattle.rv_isa.specs.declared.look.Look.{Look}
use Rattle.rv_isa.specs.Represented.{AppendsExpected}
use Rattle.rv_isa.specs.Sees.{Sees}
use Rattle.rv_isa.specs.HartState.{HartState, StandsFor, IsTimed, StandsForSome}
use Rattle.rv_isa.specs.Hart.{left_after}
use Rattle.rv_isa.specs.Look.{TellsStep}
use Rattle.rv_isa.proofs.Uses.{made}
use Rattle.rv_isa.proofs.Slots.{all-within}
use Rattle.rv_isa.proofs.Agreement.{expected-follows}
use Rattle.rv_isa.proofs.States.{Stays, step-stays, start-is}
use Rattle.rv_isa.proofs.Stepping.{SameVersion, step-version}
use Rattle.rv_isa.proofs.EarlierUses.{step-reads}
use Rattle.rv_isa.proofs.UsesAreCells.{uses-are-cells}
use Rattle.rv_isa.proofs.LeftUses.{uses-rise, touches-made, values-left, use-bound, times-left, left-within, accesses-are, all-append, all-weaker}

-- ---- what is true of a hart, since it stands for some state

pub hart-aligned : (h : HartState) → StandsForSome h → h.pc % 4 ≡ 0
hart-aligned h sound = ∥∥₁_elim sound.stands (Coded-set coded_ℕ _ _) (λ p. ap (λ n. n % 4) p.1.pc ∙ p.1.ranges.aligned)

pub hart-within : (h : HartState) → StandsForSome h → h.position ≤ length h.input
hart-within h sound = ∥∥₁_elim sound.stands le_prop (λ p. subst (λ n. n ≤ length h.input) (sym p.1.position) p.1.within)

-- ---- the start

first-value : (m : Contents) (c : ℕ) → m.touched ≡ [] → value_at m c ≡ initial_value m.image c
unfolding value_at
first-value m c none = ap (λ es. value_at (record { image = m.image; touched = es }) c) none

first-time : (m : Contents) (c : ℕ) → m.touched ≡ [] → time_at m c ≡ 0
unfolding time_at
first-time m c none = ap (λ es. time_at (record { image = m.image; touched = es }) c) none

pub start-stands : (h : HartState) (i : Image) → IsProgram i → h.cells.image ≡ i → h.cells.touched ≡ [] → h.pc ≡ i.entry → h.position ≡ 0 → StandsFor h (start i)
start-stands h i program same none pc position = record {
  version = ap (λ (i : Image). i.version) same;
  pc = pc;
  position = position;
  cells = λ c is. first-value h.cells c none ∙ ap (λ (i : Image). initial_value i c) same;
  ranges = start-is i program;
  within = omega arith;
}

pub start-timed : (h : HartState) → h.cells.touched ≡ [] → IsTimed h [] 0
unfolding last_use
start-timed h none = record { times = λ c is. first-time h.cells c none; earlier = tt }

-- ---- a look at a step

-- the accesses of a step begin with none
pub given : (h : HartState) (v : Seen) (l : Look) (first : List Touch) → first ≡ []
    → AppendsExpected (isa.expected h.cells.image.version h.pc v h.input h.position) first l.touches.list.items l.outcome
    → AppendsExpected (isa.expected h.cells.image.version h.pc v h.input h.position) [] l.touches.list.items l.outcome
given h v l first none = subst (λ (ts : List Touch). AppendsExpected (isa.expected h.cells.image.version h.pc v h.input h.position) ts l.touches.list.items l.outcome) none

-- how an expected step goes, whether it ends the run or not
went : (e : isa.Expected) (s : State) (turn : Transition) → GoesAs e s turn
    → (e.end ≡ end_of turn) × (e.next ≡ (state_after s turn).pc) × (s.position + e.took ≡ (state_after s turn).position) × (s.output ++ e.put ≡ (state_after s turn).output)
went e s (Next t) goes = goes
went e s (Ends f) goes = (goes.0, goes.1, omega (arith, goes.2), ap (λ bytes. s.output ++ bytes) goes.3 ∙ append-nil s.output)

pub look-tells : (h : HartState) (v : Seen) (l : Look) → AppendsExpected (isa.expected h.cells.image.version h.pc v h.input h.position) [] l.touches.list.items l.outcome
    → (s : State) → StandsFor h s → Sees v s (step_uses h.input s) → TellsStep h.input s l
look-tells h v l gives s shows sees = record {
  touches = gives.touches ∙ ap (λ x. x.touches) same ∙ follows.0;
  ends = gives.end ∙ ap (λ x. x.end) same ∙ goes.0;
  next = gives.next ∙ ap (λ x. x.next) same ∙ goes.1;
  took = ap (λ n. s.position + n) took ∙ goes.2;
  most = gives.most;
  output = ap (λ bytes. s.output ++ bytes) put ∙ goes.3;
}
  where
    e : isa.Expected
    e = isa.expected s.version s.pc v h.input s.position

    same : isa.expected h.cells.image.version h.pc v h.input h.position ≡ isa.expected s.version s.pc v h.input s.position
    same = λ i. isa.expected (shows.version i) (shows.pc i) v h.input (shows.position i)

    follows : ((isa.expected s.version s.pc v h.input s.position).touches ≡ map touch_of (visits h.input s)) × GoesAs (isa.expected s.version s.pc v h.input s.position) s (step h.input s)
    follows = expected-follows h.input s v shows.ranges sees

    goes : ((isa.expected s.version s.pc v h.input s.position).end ≡ end_of (step h.input s)) × ((isa.expected s.version s.pc v h.input s.position).next ≡ (next_state h.input s).pc)
        × (s.position + (isa.expected s.version s.pc v h.input s.position).took ≡ (next_state h.input s).position) × (s.output ++ (isa.expected s.version s.pc v h.input s.position).put ≡ (next_state h.input s).output)
    goes = went (isa.expected s.version s.pc v h.input s.position) s (step h.input s) follows.1

    took : l.outcome.took ≡ (isa.expected s.version s.pc v h.input s.position).took
    took = gives.took ∙ ap (λ x. x.took) same

    put : take l.outcome.put (to_le_bytes w32 l.outcome.word) ≡ (isa.expected s.version s.pc v h.input s.position).put
    put =
        ap₂ take gives.put gives.word ∙ take-append_seam (isa.expected h.cells.image.version h.pc v h.input h.position).put (replicate (4 - l.outcome.put) 0)
        ∙ ap (λ x. x.put) same

-- ---- what a step uses

or-more : (a b x y : Bool) → (y ≡ true → x ≡ true) → (a || b || y) ≡ true → (a || b || x) ≡ true
or-more true b x y f e = refl
or-more false true x y f e = refl
or-more false false x y f e = f e

last-of : (two last : Bool) → (two && last) ≡ true → last ≡ true
last-of true last e = e
last-of false last e = (let no : ⊥ = cc in absurd no)

-- the cells of a version are cells of the version with the reservation
pub cell-of : (version c : ℕ) → IsTrue (is_cell version c) → IsTrue (is_cell 2 c)
cell-of version c is = or-more (nat_lt c (2 ^ 30)) (nat_lt (2 ^ 30) c && nat_lt c (2 ^ 30 + 32)) (c == reservation_cell) (version == 2 && c == reservation_cell) (last-of (version == 2) (c == reservation_cell)) is

module _ (h : HartState) (l : Look) (tells : (s : State) → StandsFor h s → TellsStep h.input s l) where
  abbrev ts : List Touch
  ts = l.touches.list.items

  module _ (s : State) (shows : StandsFor h s) where
    abbrev us : List Use
    us = step_uses h.input s

    abbrev t : State
    t = next_state h.input s

    are-made : ts ≡ made s t us
    are-made = (tells s shows).touches ∙ touches-made h.input s

    touch-use : (x : Touch) → In x ts → (u : Use) × In u us × (x ≡ touch_of (visit s t u))
    touch-use x m = in-map-back (λ u. touch_of (visit s t u)) x us (subst (λ (ls : List Touch). In x ls) are-made m)

    pub touch-cell : (x : Touch) → In x ts → IsTrue (is_cell 2 x.cell)
    touch-cell x m =
        let found = touch-use x m in
        let cell : IsTrue (is_cell s.version found.0.cell) = (all-in (λ u. IsTrue (is_cell s.version u.cell) × (u.cell < 2 ^ 30 + 33)) us (uses-are-cells h.input s shows.ranges) found.0 found.1).0 in
        subst (λ c. IsTrue (is_cell 2 c)) (sym (ap (λ z. z.cell) found.2)) (cell-of s.version found.0.cell cell)

    pub touch-slot : (x : Touch) → In x ts → 0 < x.slot
    touch-slot x m =
        let found = touch-use x m in
        let within : (1 ≤ found.0.slot) × (found.0.slot < 9) = all-in (λ u. (1 ≤ u.slot) × (u.slot < 9)) us (all-within 1 9 us (uses-rise h.input s)) found.0 found.1 in
        omega (arith, within.0, ap (λ z. z.slot) found.2)

  pub touches-are-cells : StandsForSome h → AllByRecursion (λ x. IsTrue (is_cell 2 x.cell)) ts
  touches-are-cells sound = all-of (λ x. IsTrue (is_cell 2 x.cell)) ts each
    where
      each : (x : Touch) → In x ts → IsTrue (is_cell 2 x.cell)
      each x m = go (is_cell 2 x.cell) refl
        where
          go : (b : Bool) → is_cell 2 x.cell ≡ b → b ≡ true
          go true e = refl
          go false e = (let none : 1 ≤ 0 = ∥∥₁_elim sound.stands le_prop (λ p. (let is : is_cell 2 x.cell ≡ true = touch-cell p.0 p.1 x m in let no : ⊥ = cc in absurd no)) in absurd (omega (arith, none)))

  pub touches-are-slots : StandsForSome h → AllByRecursion (λ x. 0 < x.slot) ts
  touches-are-slots sound = all-of (λ x. 0 < x.slot) ts (λ x m. ∥∥₁_elim sound.stands le_prop (λ p. touch-slot p.0 p.1 x m))

  -- ---- the step taken

  -- the next state is a state
  stayed : (input : List ℕ) (s : State) (turn : Transition) → Stays input turn → IsState s → s.position ≤ length input → IsState (state_after s turn) × ((state_after s turn).position ≤ length input)
  stayed input s (Next t) stays is within = stays
  stayed input s (Ends e) stays is within = (is, within)

  same-version : (s : State) (turn : Transition) → SameVersion s turn → (state_after s turn).version ≡ s.version
  same-version s (Next t) same = same
  same-version s (Ends e) same = refl

  module _ (bytes : AreBytes h.input) where
    after : (s : State) → StandsFor h s → IsState (next_state h.input s) × ((next_state h.input s).position ≤ length h.input)
    after s shows = stayed h.input s (step h.input s) (step-stays h.input s shows.ranges bytes shows.within) shows.ranges shows.within

    pub took-within : StandsForSome h → h.position + l.outcome.took ≤ length h.input
    took-within sound = ∥∥₁_elim sound.stands le_prop (λ p. omega (arith, p.1.position, (tells p.0 p.1).took, (after p.0 p.1).1))

    -- n is the hart after the step
    pub record Leads (n : HartState) (k : ℕ) : Type 0 where
      pub input : n.input ≡ h.input
      pub pc : n.pc ≡ l.outcome.next
      pub position : n.position ≡ h.position + l.outcome.took
      pub left : IsLeft h.cells n.cells k ts

    pub next-stands : (n : HartState) (k : ℕ) → Leads n k → (s : State) → StandsFor h s → StandsFor n (next_state h.input s)
    next-stands n k leads s shows = record {
      version = ap (λ (i : Image). i.version) leads.left.image ∙ shows.version ∙ sym (same-version s (step h.input s) (step-version h.input s));
      pc = leads.pc ∙ (tells s shows).next;
      position = leads.position ∙ ap (λ p. p + l.outcome.took) shows.position ∙ (tells s shows).took;
      cells = λ c is. leads.left.values c ∙ ap₂ (λ (xs : List Touch) v. value_after xs c v) (tells s shows).touches (shows.cells c is) ∙ values-left h.input s c;
      ranges = (after s shows).0;
      within = subst (λ (xs : List ℕ). (next_state h.input s).position ≤ length xs) (sym leads.input) (after s shows).1;
    }

    pub next-sound : StandsForSome h → (n : HartState) (k : ℕ) → Leads n k → StandsForSome n
    next-sound sound n k leads = record {
      bytes = subst AreBytes (sym leads.input) bytes;
      stands = ∥∥₁_map sound.stands (λ p. (next_state h.input p.0, next-stands n k leads p.0 p.1));
    }

    pub next-timed : (n : HartState) (k : ℕ) → Leads n k → (s : State) (before : List Tuple) → StandsFor h s → IsTimed h before k → IsTimed n (left_after h.input s before k) (k + 1)
    unfolding visits
    next-timed n k leads s before shows timed = record {
      times = λ c is.
          leads.left.times c ∙ ap₂ (λ (xs : List Touch) p. time_after k xs c p) (are-made s shows) (timed.times c is ∙ sym (use-bound before c (time_of k 0) (time_of (k + 1) 0) timed.earlier (omega arith)))
          ∙ sym (times-left s (next_state h.input s) k c (time_of (k + 1) 0) 1 9 (step_uses h.input s) before (uses-rise h.input s)
          (all-weaker (λ (w : Tuple). w.time < time_of k 0) (λ w. w.time < time_of k 1) before (λ w g. omega arith) timed.earlier) (omega arith));
      earlier = all-append (λ (w : Tuple). w.time < time_of (k + 1) 0) before (tuples_left k (visits h.input s))
          (all-weaker (λ (w : Tuple). w.time < time_of k 0) (λ w. w.time < time_of (k + 1) 0) before (λ w g. omega arith) timed.earlier)
          (all-weaker (λ (w : Tuple). (time_of k 1 ≤ w.time) × (w.time < time_of k 9)) (λ w. w.time < time_of (k + 1) 0) (tuples_left k (visits h.input s)) (λ w g. (let early = g.1 in omega arith))
          (left-within s (next_state h.input s) k 1 9 (step_uses h.input s) (all-within 1 9 (step_uses h.input s) (uses-rise h.input s))));
    }

  pub row-is : (k : ℕ) (s : State) (before : List Tuple) → StandsFor h s → IsTimed h before k → accesses_of (value_at h.cells) (time_at h.cells) k [] ts ≡ map (access (left_after h.input s before k) k) (visits h.input s)
  unfolding visits
  row-is k s before shows timed =
      ap (accesses_of (value_at h.cells) (time_at h.cells) k []) (are-made s shows)
      ∙ accesses-are s (next_state h.input s) k h.cells before timed.earlier (step_uses h.input s) 1 9 (uses-rise h.input s) (step-reads h.input s shows.ranges)
      (all-of (λ u. (value_at h.cells u.cell ≡ value s u.cell) × (time_at h.cells u.cell ≡ last_use before u.cell (time_of k 0))) (step_uses h.input s)
      (λ u m.
      let is : IsTrue (is_cell 2 u.cell) = cell-of s.version u.cell (all-in (λ u. IsTrue (is_cell s.version u.cell) × (u.cell < 2 ^ 30 + 33)) (step_uses h.input s) (uses-are-cells h.input s shows.ranges) u m).0 in
      (shows.cells u.cell is, timed.times u.cell is)))
