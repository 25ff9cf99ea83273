-- A phase waits with fewer than 256 bytes.
use Rattle.std.proofs.Common.{◌≡◌, ℕ, zero, suc, ◌+◌, ◌*◌, ◌<◌, ◌≤◌, Bool, true, false, ◌==◌, ◌&&◌, nat_le, nat_lt, bytes_eq, List, [], ◌∷◌, length, get_or, Option, Some, None, Ok, refl, inl, inr, arith}
use Rattle.std.specs.Int.{is_in_range}
use Rattle.std.proofs.lemmas.Bool.{leb-true, eqb-true, cases_lt, and_parts}
use Rattle.rv_base.specs.declared.record.Header.{Header}
use Rattle.rv_base.specs.declared.record.Place.{Place}
use Rattle.rv_rules.specs.RowRules.{row_checks}
use Rattle.rv_spec.specs.Trace.{Row}
use Rattle.rv_spec.specs.Digest.{Lanes}
use Rattle.rv_spec.specs.Record.{shard_rows}
use Rattle.rv_spec.specs.Cells.{is_cell}
use Rattle.rv_rules.specs.Checks.{Check, first_broken, refused_by, unless_broken}
use Rattle.rv_rules.specs.Reading.{head_of, row_of, entry_of, above, when_complete, row_checks_when_complete, same_place}
use Rattle.rv_reading.specs.Stream.{Found, with_patience, patient}
use Rattle.rv_reading.specs.Machine.{Phase, good_digests, step}
use Rattle.rv_reading.specs.Machine.Phase.{Shards, Rows, Entries}
use Rattle.rv_reading.proofs.StreamLaws.{patient-stays}
use Rattle.rv_reading.proofs.CheckLists.{all-hold, Passed, Passed-first_broken, Passed-other, Passed-others, Passed-room}

-- a step waits
abbrev Waits : Found Phase → Type 0
Waits s = with_patience s ≡ Ok None

-- Where the checks of rule 1 hold, a step doesn't wait for bytes.
not-waiting : (i r : ℕ) (cs : List Check) (x : Option (Phase × List ℕ)) → Passed cs → (first_broken cs ≡ None → ¬ (x ≡ None)) → ¬ (Waits (unless_broken i r cs x))
not-waiting i r cs x passed going w = go (first_broken cs) refl w
  where
    some : (rule : ℕ) → ¬ (rule ≡ 1) → ¬ (Waits (refused_by i r (Some rule) x))
    some rule not v = let kept = patient-stays {P = Phase} (record { shard = i; row = r; rule = rule }) not in absurd cc

    go : (o : Option ℕ) → first_broken cs ≡ o → ¬ (Waits (refused_by i r o x))
    go None e v = going e (let is : x ≡ None = cc in is)
    go (Some rule) e v = some rule (Passed-first_broken cs rule passed e) v

moving : (cs : List Check) (x : Phase × List ℕ) → first_broken cs ≡ None → ¬ (Some x ≡ None)
moving cs x e is = absurd cc

passed-row : (complete : Bool) (elf input : List ℕ) (lanes : Lanes) (h : Header) (output : List ℕ) (row : Row) (k : ℕ) (p : Place) → Passed (row_checks_when_complete complete lanes elf input h output row k p)
unfolding row_checks
passed-row false elf input lanes h output row k p = tt
passed-row true elf input lanes h output row k p = Passed-others (row_checks_when_complete true lanes elf input h output row k p) refl

module _ (complete : Bool) (lanes : Lanes) (elf input : List ℕ) (h : Header) (output : List ℕ) where
  long-goes : (p : Phase) (xs : List ℕ) → 256 ≤ length xs → ¬ (Waits (step complete lanes elf input h output p xs))
  unfolding step
  long-goes (Shards zero i p all) xs long =
      let cs : List Check = (1, nat_le 4 (length xs)) ∷ [] in
      not-waiting h.shards 0 cs (Some _) (Passed-room 4 xs [] (omega (arith, long)) tt) (moving cs _)
  long-goes (Shards (suc n) i p all) xs long =
      let good = (head_of xs).index == i && (head_of xs).rows == shard_rows h.size h.steps i && when_complete complete lanes elf input (same_place (head_of xs) p) in
      let nine : List Check = (9, good) ∷ [] in
      let cs : List Check = (1, nat_le 32 (length xs)) ∷ nine in
      not-waiting i 0 cs (Some _) (Passed-room 32 xs nine (omega (arith, long)) (Passed-others nine refl)) (moving cs _)
  long-goes (Rows zero r m i s p all) xs long =
      let full_size = s.bytes == s.head.bytes in
      let last : List Check = (21, good_digests complete lanes elf input h output xs s.sums) ∷ [] in
      let two : List Check = (1, nat_le 256 (length xs)) ∷ last in
      let cs : List Check = (20, full_size) ∷ two in
      not-waiting i r cs (Some _) (Passed-other 20 full_size two refl (λ _. Passed-room 256 xs last long (Passed-others last refl))) (moving cs _)
  long-goes (Rows (suc n) r m i s p all) xs long =
      let count = get_or xs 8 0 in
      let three = row_checks_when_complete complete lanes elf input h output (row_of xs) (i * h.size + r) p in
      let two : List Check = (1, nat_le (9 + 21 * count) (length xs)) ∷ three in
      let one : List Check = (10, is_in_range 1 8 count) ∷ two in
      let cs : List Check = (1, nat_le 9 (length xs)) ∷ one in
      not-waiting i r cs (Some _)
      (Passed-room 9 xs one (omega (arith, long)) (Passed-other 10 (is_in_range 1 8 count) two refl (λ e.
      let most : count ≤ 8 = leb-true count 8 (and_parts (nat_le 1 count) (nat_le count 8) e).1 in
      Passed-room (9 + 21 * count) xs three (omega (arith, most, long)) (passed-row complete elf input lanes h output (row_of xs) (i * h.size + r) p))))
      (moving cs _)
  long-goes (Entries zero j before p all) xs long =
      let cs : List Check =
      (25, when_complete complete lanes elf input (p.input == h.consumed && p.output == h.length)) ∷ (26, when_complete complete lanes elf input (bytes_eq all.reads all.writes)) ∷ (27, length xs == 0) ∷ [] in
      not-waiting h.shards j cs None (Passed-others cs refl) (λ e _. let none = eqb-true (length xs) 0 (all-hold cs e).1.1.0 in omega (arith, none, long))
  long-goes (Entries (suc n) j before p all) xs long =
      let e = entry_of xs in
      let rules : List Check = (22, above before e.cell) ∷ (23, is_cell h.version e.cell) ∷ (24, nat_lt 0 e.time) ∷ [] in
      let cs : List Check = (1, nat_le 16 (length xs)) ∷ rules in
      not-waiting h.shards j cs (Some _) (Passed-room 16 xs rules (omega (arith, long)) (Passed-others rules refl)) (moving cs _)

  -- A phase waits with fewer than 256 bytes: a buffer of 256 holds what a state holds.
  pub waits-below : (p : Phase) (xs : List ℕ) → patient (step complete lanes elf input h output) p xs ≡ Ok None → length xs < 256
  waits-below p xs w = elim (cases_lt (length xs) 256) [ inl lt ↦ lt | inr le ↦ absurd (long-goes p xs le w) ]
