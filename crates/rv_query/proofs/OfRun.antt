-- The answers on the record of a run are those of the run, and an accepted file is such a record or a collision.
use Rattle.std.proofs.Common.{◌≡◌, ◌⊎◌, ℕ, zero, suc, ◌+◌, ◌-◌, ◌<◌, ◌≤◌, Bool, true, false, cond, ◌==◌, ◌&&◌, nat_lt, List, [], ◌∷◌, map, Option, Some, None, Result, Ok, Err, option_map, unwrap_or, slice_get, slice_index, refl, sym, ap, subst, ◌∙◌, inl, inr, arith, filter}
use Rattle.std.specs.List.{range_with_len}
use Rattle.std.proofs.lemmas.List.FromFn.{take-map-range_with_len}
use Rattle.std.proofs.lemmas.Bool.{eqb-true, ne_eqb, lt-ltb, le-ltb}
use Rattle.rv_base.specs.declared.cells.TheConstants.{REGISTER_CELLS, RESERVATION_CELL}
use Rattle.rv_base.specs.declared.record.End.{End}
use Rattle.rv_base.specs.declared.record.Refusal.{Refusal}
use Rattle.rv_base.specs.declared.record.Verdict.TheVariants.{Accept}
use Rattle.rv_spec.specs.Words.{AreBytes, word}
use Rattle.rv_spec.specs.Elf.{Image, first_fault}
use Rattle.rv_spec.specs.Step.{State, register}
use Rattle.rv_spec.specs.Run.{run}
use Rattle.rv_spec.specs.Cells.{value, initial_value, register_cell, time_of}
use Rattle.rv_spec.specs.Trace.{Row, greatest, last_use, left_at, row, rows}
use Rattle.rv_spec.specs.Digest.{Lanes}
use Rattle.rv_spec.specs.Record.{Parts, all_rows, record_parts}
use Rattle.rv_spec.specs.Grammar.{Spells}
use Rattle.rv_spec.specs.Conclusion.{IsRecord, IsCollision}
use Rattle.rv_rules.specs.Verdict.{judge, verdict_of}
use Rattle.rv_rules.specs.Laws.{AcceptedIsRecord}
use Rattle.rv_rules.specs.Chain.{value_before}
use Rattle.rv_rules.proofs.Lemmas.{left-true}
use Rattle.rv_isa.proofs.Lemmas.{holds-last-uses}
use Rattle.rv_file.proofs.Lemmas.{one-spelling}
use Rattle.rv_sound.specs.Accepted.{ReadsAccepted}
use Rattle.rv_sound.proofs.Lemmas.{record-spells}
use Rattle.rv_query.specs.Accesses.{Numbered, own_time, numbered, accesses_before, last_access}
use Rattle.rv_query.specs.Questions.{cell_seen, register_seen, state_seen, image_of, cell_answer, state_answer, snapshot}
use Rattle.rv_query.specs.OfRun.{Accepts, cell_of_run}
use Rattle.rv_query.specs.Following.{trail}
use Rattle.rv_query.specs.declared.questions.CellSeen.{CellSeen}
use Rattle.rv_query.proofs.Latest.{counts, time_in, latest-time}
use Rattle.rv_query.proofs.Trails.{trail-shown}
use Rattle.rv_query.proofs.Early.{seen-early}
use Rattle.rv_query.proofs.Uses.{latest-in, of-filter}
use Rattle.rv_query.proofs.OwnTimes.{Rise, rise-above, trace-rises, left-at}
use Rattle.rv_query.proofs.TraceRows.{left_by, trace-leaves, record-rows}

-- ---- the value of a cell

-- the last use in a history is that of the accesses which left it
same-filtered : (c s : ℕ) (xs : List Numbered) → map (λ t. t.time) (filter (λ t. t.cell == c && nat_lt t.time (time_of s 0)) (map left_by xs)) ≡ map own_time (filter (counts c s) xs)
same-filtered c s [] = refl
same-filtered c s (x ∷ xs) = go (counts c s x) (same-filtered c s xs)
  where
    go : (b : Bool) → map (λ t. t.time) (filter (λ t. t.cell == c && nat_lt t.time (time_of s 0)) (map left_by xs)) ≡ map own_time (filter (counts c s) xs)
        → map (λ t. t.time) (cond b (left_by x ∷ filter (λ t. t.cell == c && nat_lt t.time (time_of s 0)) (map left_by xs)) (filter (λ t. t.cell == c && nat_lt t.time (time_of s 0)) (map left_by xs)))
        ≡ map own_time (cond b (x ∷ filter (counts c s) xs) (filter (counts c s) xs))
    go true e = ap (λ (l : List ℕ). own_time x ∷ l) e
    go false e = e

last-time : (xs : List Numbered) (c s : ℕ) → last_use (map left_by xs) c (time_of s 0) ≡ time_in (last_access xs c s)
unfolding last_use
last-time xs c s = ap greatest (same-filtered c s xs) ∙ sym (latest-time (accesses_before xs c s))

-- the value before a step is what the latest access left, or the initial value
value-left : (initial : ℕ → ℕ) (xs : List Numbered) (c s hi : ℕ) → Rise 1 hi (map own_time xs) → value_before initial (map left_by xs) c (time_of s 0) ≡ unwrap_or (option_map (λ a. a.access.new) (last_access xs c s)) (initial c)
value-left initial xs c s hi rise = ap (λ p. cond (p == 0) (initial c) (left_at (map left_by xs) c p)) (last-time xs c s) ∙ go (last_access xs c s) refl
  where
    go : (o : Option Numbered) → last_access xs c s ≡ o → cond (time_in o == 0) (initial c) (left_at (map left_by xs) c (time_in o)) ≡ unwrap_or (option_map (λ a. a.access.new) o) (initial c)
    go None e = refl
    go (Some a) e =
        let stands = of-filter (counts c s) a xs (latest-in (accesses_before xs c s) a e) in
        let cell : a.access.cell ≡ c = eqb-true a.access.cell c (left-true (a.access.cell == c) (nat_lt (own_time a) (time_of s 0)) stands.1) in
        let some : (own_time a == 0) ≡ false = ne_eqb (own_time a) 0 (λ z. (let above : 1 ≤ own_time a = rise-above 1 hi xs rise a stands.0 in absurd (omega (arith, above, z)))) in
        ap (λ b. cond b (initial c) (left_at (map left_by xs) c (own_time a))) some ∙ ap (λ k. left_at (map left_by xs) k (own_time a)) (sym cell) ∙ left-at 1 hi xs rise a stands.0

module _ (i : Image) (input : List ℕ) (n s : ℕ) (within : s < n) where
  abbrev pub trace : List Row
  trace = rows i input 0 n

  abbrev pub state : State
  state = run i input s

  pub value-shown : (c : ℕ) → (cell_seen i trace c s).value ≡ value state c
  value-shown c =
      let xs : List Numbered = numbered 0 (rows i input 0 s) in
      ap (λ (x : CellSeen). x.value) (seen-early i trace c s)
      ∙ ap (λ rs. (trail (initial_value i c) (numbered 0 rs) c s).value) (take-map-range_with_len (row i input) 0 n s (omega (arith, within)))
      ∙ ap (λ t. t.value) (trail-shown (initial_value i c) xs c s)
      ∙ sym (value-left (initial_value i) xs c s (time_of s 1) (trace-rises i input s))
      ∙ ap (λ ts. value_before (initial_value i) ts c (time_of s 0)) (trace-leaves i input s) ∙ sym (holds-last-uses i input s c)

  cell-shown : (c : ℕ) → cell_seen i trace c s ≡ record (cell_seen i trace c s) { value = value state c }
  cell-shown c = ap (λ v. record (cell_seen i trace c s) { value = v }) (value-shown c)

  -- ---- the state

  in-range : {A : Type 0} (f : ℕ → A) (a m j : ℕ) → j < m → slice_get (map f (range_with_len a m)) j ≡ Some (f (a + j))
  in-range f a zero j lt = absurd (omega (arith, lt))
  in-range f a (suc m) zero lt = ap (λ k. Some (f k)) (let e : a ≡ a + 0 = omega arith in e)
  in-range f a (suc m) (suc j) lt = in-range f (a + 1) m j (omega (arith, lt)) ∙ ap (λ k. Some (f k)) (let e : a + 1 + j ≡ a + suc j = omega arith in e)

  same-in-range : (f g : ℕ → ℕ) (a m : ℕ) → ((j : ℕ) → j < a + m → f j ≡ g j) → map f (range_with_len a m) ≡ map g (range_with_len a m)
  same-in-range f g a zero same = refl
  same-in-range f g a (suc m) same =
      let first : f a ≡ g a = same a (omega arith) in
      let others = same-in-range f g (a + 1) m (λ j lt. same j (omega (arith, lt))) in
      λ t. first t ∷ others t

  value-register : (r : ℕ) → r < 32 → value state (register_cell r) ≡ register state r
  unfolding value
  value-register r lt =
      let above : nat_lt (register_cell r) REGISTER_CELLS ≡ false = le-ltb (register_cell r) REGISTER_CELLS (omega arith) in
      let other : (register_cell r == RESERVATION_CELL) ≡ false = ne_eqb (register_cell r) RESERVATION_CELL (λ e. absurd (omega (arith, e, lt))) in
      let place : register_cell r - REGISTER_CELLS ≡ r = omega arith in
      ap (λ b. cond b (word state.memory (register_cell r)) (cond (register_cell r == RESERVATION_CELL) state.reservation (register state (register_cell r - REGISTER_CELLS)))) above
      ∙ ap (λ b. cond b state.reservation (register state (register_cell r - REGISTER_CELLS))) other ∙ ap (register state) place

  register-shown : (r : ℕ) → r < 32 → register_seen i trace s r ≡ register state r
  register-shown r lt = go (r == 0) refl
    where
      go : (b : Bool) → (r == 0) ≡ b → cond b 0 (cell_seen i trace (register_cell r) s).value ≡ register state r
      go true e = sym (ap (λ b. cond b 0 (slice_index state.registers (r - 1))) e)
      go false e = value-shown (register_cell r) ∙ value-register r lt

  pub state-shown : state_seen i trace s ≡ snapshot state
  unfolding state_seen snapshot
  state-shown =
      let at : 0 + s ≡ s = omega arith in
      let pc : unwrap_or (option_map (λ (r : Row). r.pc) (slice_get trace s)) 0 ≡ state.pc = ap (λ o. unwrap_or (option_map (λ (r : Row). r.pc) o) 0) (in-range (row i input) 0 n s within) ∙ ap (λ k. (run i input k).pc) at in
      let regs : map (register_seen i trace s) (range_with_len 0 32) ≡ map (register state) (range_with_len 0 32) = same-in-range (register_seen i trace s) (register state) 0 32 (λ j lt. register-shown j (omega (arith, lt))) in
      λ t. record { pc = pc t; regs = regs t }

-- ---- accepted files

accepted : (r : Result Parts Refusal) (steps shards : ℕ) (end : End) → verdict_of r ≡ Accept steps shards end → (p : Parts) × (r ≡ Ok p)
accepted (Ok p) steps shards end is = (p, refl)
accepted (Err d) steps shards end is = absurd cc

-- the rows of an accepted file are those of the trace, or it is a collision
pub rows-of-run : (lanes : Lanes) (elf input file : List ℕ) (p : Parts) → first_fault elf ≡ None → AreBytes elf → AreBytes input
    → ReadsAccepted lanes elf input → ((q : Parts) → AcceptedIsRecord lanes elf input file q) → Accepts lanes elf input file p
    → (all_rows p ≡ rows (image_of elf p) input 0 p.header.steps) ⊎ IsCollision lanes elf file
rows-of-run lanes elf input file p faultless bytes input_bytes reads sound a =
    let judged = accepted (judge lanes elf input file) a.steps a.shards a.end a.accepted in
    let q : Parts = judged.0 in
    let spelled = (reads.accepted file q a.bytes judged.1).0 in
    let one : q ≡ p = one-spelling file p q a.spells spelled in
    elim (subst (λ (x : Parts). IsRecord lanes x.header.version elf input x.header.size x.header.steps x.header.end file ⊎ IsCollision lanes elf file) one (sound q faultless bytes input_bytes a.bytes judged.1)) [
      | inl r ↦
          let h = p.header in
          let m : Parts = record_parts lanes h.version elf input h.size h.steps h.end in
          let of_record : Spells m file = subst (Spells m) (sym r.is) (record-spells lanes h.version elf input h.size h.steps h.end bytes input_bytes r.has) in
          let is : p ≡ m = one-spelling file m p of_record a.spells in
          inl (ap all_rows is ∙ record-rows lanes h.version elf input h.size h.steps h.end (omega (arith, r.has.size_within.0)))
      | inr c ↦ inr c
    ]

pub state-follows : (elf input : List ℕ) (p : Parts) (s : ℕ) → (all_rows p ≡ rows (image_of elf p) input 0 p.header.steps) → s < p.header.steps → state_answer elf p s ≡ Some (snapshot (run (image_of elf p) input s))
state-follows elf input p s are within =
    ap (λ b. cond b (Some (state_seen (image_of elf p) (all_rows p) s)) None) (lt-ltb s p.header.steps within)
    ∙ ap (λ rs. Some (state_seen (image_of elf p) rs s)) are ∙ ap (λ x. Some x) (state-shown (image_of elf p) input p.header.steps s within)

pub cell-follows : (elf input : List ℕ) (p : Parts) (c s : ℕ) → (all_rows p ≡ rows (image_of elf p) input 0 p.header.steps) → s < p.header.steps → cell_answer elf p c s ≡ Some (cell_of_run elf input p c s)
cell-follows elf input p c s are within =
    ap (λ b. cond b (Some (cell_seen (image_of elf p) (all_rows p) c s)) None) (lt-ltb s p.header.steps within)
    ∙ ap (λ rs. Some (cell_seen (image_of elf p) rs c s)) are ∙ ap (λ x. Some x) (cell-shown (image_of elf p) input p.header.steps s within c)
