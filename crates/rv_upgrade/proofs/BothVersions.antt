-- Rows that break no rule in version 1 break none in version 2, unless the last of them shows a word of extension A where the run ends as at an illegal word.
use Rattle.std.proofs.Common.{◌≡◌, ℕ, ◌+◌, ◌-◌, ◌*◌, ◌/◌, ◌≤◌, Bool, true, false, cond, ◌||◌, ◌==◌, List, [], ◌∷◌, ◌++◌, length, drop, map, find, Option, Some, None, is_none, is_some, option_map, unwrap_or, slice_get, bytes_eq, nat_lt, nat_eq, refl, sym, ap, subst, ◌∙◌, append_assoc, length-append, arith}
use Rattle.std.specs.List.{list_all, starts_with}
use Rattle.std.specs.Option.{option_or}
use Rattle.std.proofs.lemmas.Bool.{eqb-true}
use Rattle.std.proofs.lemmas.Slice.Eq.{bytes_eq-Decides}
use Rattle.rv_base.specs.declared.cells.TheConstants.{FETCH_SLOT}
use Rattle.rv_base.specs.declared.machine.TheConstants.{ILLEGAL_WORD}
use Rattle.rv_base.specs.declared.rules.TheConstants.{PC, SLOT, CELL, VALUE, TIME_ORDER, NEXT, OUTPUT_BYTE, ENDS_EARLY, END_OTHER}
use Rattle.rv_base.specs.declared.instr.Instr.{Instr}
use Rattle.rv_base.specs.declared.record.Access.{Access}
use Rattle.rv_base.specs.declared.record.Header.{Header}
use Rattle.rv_base.specs.declared.record.Place.{Place}
use Rattle.rv_spec.specs.Cells.{time_of}
use Rattle.rv_spec.specs.Decode.{AnyInstr, rv32im, rv32a, decode, decode_atomic, decode_any}
use Rattle.rv_spec.specs.Trace.{Row}
use Rattle.rv_spec.specs.Digest.{Lanes}
use Rattle.rv_spec.specs.Record.{Shard}
use Rattle.rv_spec.specs.Grammar.{ShardsFit}
use Rattle.rv_rules.specs.Checks.{Check, first_broken}
use Rattle.rv_rules.specs.Expected.{Expected, expected, expected_any, touch}
use Rattle.rv_rules.specs.Reading.{last_of}
use Rattle.rv_rules.specs.RowRules.{old_in, seen, ends_as, due, row_checks, row_rule, place_after}
use Rattle.rv_rules.proofs.Lemmas.{left-true}
use Rattle.rv_sound.specs.Accepted.{place_through, RowsHold, ShardsHold}
use Rattle.rv_text.proofs.Lemmas.{rows_in}
use Rattle.rv_upgrade.specs.Upgrade.{first_old}

-- ---- one word

-- a word that is an instruction of RV32IM means the same in both versions, and one that is in neither table too
decoded-same : (w : ℕ) → (decode w ≡ None → decode_atomic w ≡ None) → decode_any 2 w ≡ decode_any 1 w
unfolding decode_any
decoded-same w fine = go (decode w) refl
  where
    go : (o : Option Instr) → decode w ≡ o → option_or (option_map rv32im o) (option_map rv32a (decode_atomic w)) ≡ option_or (option_map rv32im o) None
    go None e = ap (option_map rv32a) (fine e)
    go (Some i) e = refl

undecoded : (w : ℕ) → decode w ≡ None → decode_any 1 w ≡ None
unfolding decode_any
undecoded w e = ap (λ (o : Option Instr). option_or (option_map rv32im o) None) e

-- ---- checks

abbrev AllHold : List Check → Type 0
AllHold [] = Unit {0}
AllHold (c ∷ cs) = (c.1 ≡ true) × AllHold cs

all-hold : (cs : List Check) → first_broken cs ≡ None → AllHold cs
all-hold [] e = tt
all-hold (c ∷ cs) e = go c.1 (all-hold cs) e
  where
    go : (b : Bool) → (first_broken cs ≡ None → AllHold cs) → cond b (first_broken cs) (Some c.0) ≡ None → (b ≡ true) × AllHold cs
    go true rest e = (refl, rest e)
    go false rest e = absurd cc

-- a row with the one access in the slot of the fetch shows the word there
first-slot : (accesses : List Access) → map (λ a. a.slot) accesses ≡ FETCH_SLOT ∷ [] → old_in accesses FETCH_SLOT ≡ unwrap_or (option_map (λ (a : Access). a.old) (slice_get accesses 0)) 0
first-slot [] e = absurd cc
first-slot (a ∷ accesses) e =
    let slot : a.slot ≡ FETCH_SLOT = cc in
    ap (λ b. unwrap_or (option_map (λ (x : Access). x.old) (cond b (Some a) (find (λ (x : Access). x.slot == FETCH_SLOT) accesses))) 0) (ap (λ s. s == FETCH_SLOT) slot)

length-none : {A : Type 0} (xs : List A) → length xs ≡ 0 → xs ≡ []
length-none [] e = refl
length-none (x ∷ xs) e = absurd (omega (arith, e))

-- no more rows than steps are left
pub rows-most : (h : Header) (i : ℕ) (ss : List Shard) → ShardsFit h i ss → length (rows_in ss) ≤ h.steps - i * h.size
rows-most h i [] fit = omega arith
rows-most h i (s ∷ ss) fit = omega (arith, length-append s.rows (rows_in ss), rows-most h (i + 1) ss fit.1, fit.0.count, fit.0.rows)

module _ (h : Header) (input output : List ℕ) (first_version : h.version ≡ 1) (word : ℕ) (fine : h.end.kind ≡ ILLEGAL_WORD → decode_atomic word ≡ None) where
  abbrev pub h2 : Header
  h2 = record h { version = 2 }

  -- the step that a row has to make, by what its word decodes to
  abbrev step_by : Row → Place → Option AnyInstr → Expected
  step_by r p o =
      let e = expected_any input p.input r.pc o (seen r.accesses) in
      record e { touches = touch FETCH_SLOT (r.pc / 4) (seen r.accesses).s1 ++ e.touches }

  abbrev rule_by : Row → ℕ → Place → Expected → Option ℕ
  rule_by r k p e = first_broken (
      (PC, r.pc == p.pc)
      ∷ (SLOT, bytes_eq (map (λ a. a.slot) r.accesses) (map (λ t. t.slot) e.touches))
      ∷ (CELL, bytes_eq (map (λ a. a.cell) r.accesses) (map (λ t. t.cell) e.touches))
      ∷ (VALUE, bytes_eq (map (λ a. a.new) r.accesses) (map (λ t. t.new) e.touches))
      ∷ (TIME_ORDER, list_all (λ a. nat_lt a.prev (time_of k a.slot)) r.accesses)
      ∷ (NEXT, r.next == e.next)
      ∷ (OUTPUT_BYTE, starts_with nat_eq (drop p.output output) e.put)
      ∷ (ENDS_EARLY, is_none e.end || is_some (last_of h k))
      ∷ (END_OTHER, ends_as (last_of h k) e.end)
      ∷ [])

  -- where the step ends at an illegal word, the row is the last, the file ends so too, and the word is what its first access shows
  record IsLast (r : Row) (k : ℕ) : Type 0 where
    pub last : k + 1 ≡ h.steps
    pub kind : h.end.kind ≡ ILLEGAL_WORD
    pub shown : (seen r.accesses).s1 ≡ first_old r

  illegal-is-last : (r : Row) (k : ℕ) (p : Place) → row_rule 1 r k p (last_of h k) input output ≡ None → decode (seen r.accesses).s1 ≡ None → IsLast r k
  unfolding row_checks expected
  illegal-is-last r k p holds none =
      let illegal : Expected = step_by r p None in
      let is : due 1 r p input ≡ illegal = ap (step_by r p) (undecoded (seen r.accesses).s1 none) in
      let c = all-hold (row_checks 1 r k p (last_of h k) input output) holds in
      let slots : map (λ a. a.slot) r.accesses ≡ FETCH_SLOT ∷ [] =
      (bytes_eq-Decides (map (λ a. a.slot) r.accesses) (map (λ t. t.slot) (due 1 r p input).touches)).0 c.1.0 ∙ ap (λ (d : Expected). map (λ t. t.slot) d.touches) is in
      let early : is_some (last_of h k) ≡ true = ap (λ (d : Expected). is_none d.end || is_some (last_of h k)) (sym is) ∙ c.1.1.1.1.1.1.1.0 in
      let other : ends_as (last_of h k) illegal.end ≡ true = ap (λ (d : Expected). ends_as (last_of h k) d.end) (sym is) ∙ c.1.1.1.1.1.1.1.1.0 in
      let both = go (k + 1 == h.steps) refl early other in
      record { last = both.0; kind = both.1; shown = first-slot r.accesses slots }
    where
      go : (b : Bool) → (k + 1 == h.steps) ≡ b → is_some (cond b (Some h.end) None) ≡ true → ends_as (cond b (Some h.end) None) (Some (record { kind = ILLEGAL_WORD; code = 0 })) ≡ true
          → (k + 1 ≡ h.steps) × (h.end.kind ≡ ILLEGAL_WORD)
      go true e some same = (eqb-true (k + 1) h.steps e, eqb-true h.end.kind ILLEGAL_WORD (left-true (h.end.kind == ILLEGAL_WORD) (h.end.code == 0) same))
      go false e some same = absurd cc

  -- ---- one row

  due-same : (r : Row) (k : ℕ) (p : Place) → row_rule h.version r k p (last_of h k) input output ≡ None → (k + 1 ≡ h.steps → first_old r ≡ word) → due 2 r p input ≡ due h.version r p input
  unfolding expected
  due-same r k p holds at =
      let w : ℕ = (seen r.accesses).s1 in
      let holds_1 : row_rule 1 r k p (last_of h k) input output ≡ None = subst (λ v. row_rule v r k p (last_of h k) input output ≡ None) first_version holds in
      let same : decode_any 2 w ≡ decode_any 1 w = decoded-same w (λ none. let l = illegal-is-last r k p holds_1 none in ap decode_atomic (l.shown ∙ at l.last) ∙ fine l.kind) in
      ap (step_by r p) same ∙ ap (λ v. due v r p input) (sym first_version)

  rule-same : (r : Row) (k : ℕ) (p : Place) → due 2 r p input ≡ due h.version r p input → row_rule 2 r k p (last_of h k) input output ≡ row_rule h.version r k p (last_of h k) input output
  unfolding row_checks
  rule-same r k p same = ap (rule_by r k p) same

  place-same : (r : Row) (p : Place) → due 2 r p input ≡ due h.version r p input → place_after 2 r p input ≡ place_after h.version r p input
  unfolding place_after
  place-same r p same = ap (λ (e : Expected). record { pc = e.next; input = p.input + e.took; output = p.output + length e.put }) same

  -- ---- rows, behind which others may follow

  -- the last of the rows, if there is one, shows the word
  abbrev pub EndWith : List Row → Type 0
  EndWith rs = (xs : List Row) (r : Row) → rs ≡ xs ++ (r ∷ []) → first_old r ≡ word

  rows-hold-too : (rs others : List Row) (k : ℕ) (p : Place) → length (rs ++ others) ≤ h.steps - k → EndWith (rs ++ others) → RowsHold h input output k p rs
      → RowsHold h2 input output k p rs × (place_through 2 input p rs ≡ place_through h.version input p rs)
  rows-hold-too [] others k p most ends holds = (tt, refl)
  rows-hold-too (r ∷ rs) others k p most ends holds =
      let at : k + 1 ≡ h.steps → first_old r ≡ word = λ last. ends [] r (ap (λ (l : List Row). r ∷ l) (length-none (rs ++ others) (omega (arith, most, last)))) in
      let same : due 2 r p input ≡ due h.version r p input = due-same r k p holds.0 at in
      let place : place_after 2 r p input ≡ place_after h.version r p input = place-same r p same in
      let more = rows-hold-too rs others (k + 1) (place_after h.version r p input) (omega (arith, most)) (λ xs s is. ends (r ∷ xs) s (ap (λ (l : List Row). r ∷ l) is)) holds.1 in (
        (rule-same r k p same ∙ holds.0, subst (λ (q : Place). RowsHold h2 input output (k + 1) q rs) (sym place) more.0),
        ap (λ (q : Place). place_through 2 input q rs) place ∙ more.1,
      )

  -- ---- shards

  through-append : (version : ℕ) (xs ys : List Row) (p : Place) → place_through version input p (xs ++ ys) ≡ place_through version input (place_through version input p xs) ys
  through-append version [] ys p = refl
  through-append version (x ∷ xs) ys p = through-append version xs ys (place_after version x p input)

  pub shards-hold-too : (lanes : Lanes) (ss : List Shard) (i : ℕ) (p : Place) → EndWith (rows_in ss) → ShardsFit h i ss → ShardsHold lanes h input output i p ss
      → ShardsHold lanes h2 input output i p ss × (place_through 2 input p (rows_in ss) ≡ place_through h.version input p (rows_in ss))
  shards-hold-too lanes [] i p ends fits holds = (tt, refl)
  shards-hold-too lanes (s ∷ ss) i p ends fits holds =
      let rows = rows-hold-too s.rows (rows_in ss) (i * h.size) p (rows-most h i (s ∷ ss) fits) ends holds.0.rows in
      let behind : EndWith (rows_in ss) = λ xs r is. ends (s.rows ++ xs) r (ap (λ (l : List Row). s.rows ++ l) is ∙ sym (append_assoc s.rows xs (r ∷ []))) in
      let more = shards-hold-too lanes ss (i + 1) (place_through h.version input p s.rows) behind fits.1 holds.1 in (
        (
          record { pc = holds.0.pc; taken = holds.0.taken; put = holds.0.put; rows = rows.0; reads = holds.0.reads; writes = holds.0.writes },
          subst (λ (q : Place). ShardsHold lanes h2 input output (i + 1) q ss) (sym rows.1) more.0,
        ),
        through-append 2 s.rows (rows_in ss) p ∙ ap (λ (q : Place). place_through 2 input q (rows_in ss)) rows.1 ∙ more.1 ∙ sym (through-append h.version s.rows (rows_in ss) p),
      )

  pub shards-fit-too : (i : ℕ) (ss : List Shard) → ShardsFit h i ss → ShardsFit h2 i ss
  shards-fit-too i [] fits = tt
  shards-fit-too i (s ∷ ss) fits = (
    record { index = fits.0.index; rows = fits.0.rows; count = fits.0.count; bytes = fits.0.bytes; pc = fits.0.pc; input = fits.0.input; output = fits.0.output; each = fits.0.each; reads = fits.0.reads; writes = fits.0.writes },
    shards-fit-too (i + 1) ss fits.1,
  )
