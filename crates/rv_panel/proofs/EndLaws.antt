-- The verdict behind all shards, by what was seen of the table.
use Rattle.std.proofs.Common.{◌≡◌, ℕ, ◌-◌, ◌<◌, ◌≤◌, Bool, true, false, not, ◌&&◌, ◌==◌, List, [], ◌∷◌, ◌++◌, length, map, Ok, Err, sym, ap, ◌∙◌, arith}
use Rattle.std.specs.Prelude.{nat_lt, bytes_eq}
use Rattle.std.proofs.lemmas.Bool.{ltb-true, ltb-false, eq-eqb, false_from_ne_true, eqb-true}
use Rattle.std.proofs.lemmas.List.{length-drop}
use Rattle.rv_base.specs.declared.record.Place.{Place}
use Rattle.rv_base.specs.declared.record.Refusal.{Refusal}
use Rattle.rv_base.specs.declared.record.TableEntry.{TableEntry}
use Rattle.rv_base.specs.declared.record.Verdict.{Verdict}
use Rattle.rv_base.specs.declared.record.Verdict.TheVariants.{Refuse}
use Rattle.rv_spec.specs.Digest.{Lanes, digest}
use Rattle.rv_spec.specs.Tuples.{Event, tuple_read, tuple_written, tuple_last}
use Rattle.rv_rules.specs.Checks.{unless_broken}
use Rattle.rv_reading.specs.Machine.{first_tuple, told}
use Rattle.rv_judge.specs.Subject.{Subject}
use Rattle.rv_judge.specs.Alone.{SeesTable, ended}
use Rattle.rv_judge.specs.declared.alone.TableSeen.{TableSeen}
use Rattle.rv_panel.specs.Chaining.{verdict_from}
use Rattle.rv_panel.proofs.TableSteps.{table-refused, table-taken}

-- bytes follow the table, or none do
nothing-left : (trailing : Bool) (used size : ℕ) → trailing ≡ nat_lt used size → not trailing ≡ (size - used == 0)
nothing-left true used size e =
    let lt : used < size = ltb-true used size (sym e) in
    sym (false_from_ne_true (size - used == 0) (λ z. absurd (omega (arith, lt, eqb-true (size - used) 0 z))))
nothing-left false used size e =
    let le : size ≤ used = ltb-false used size (sym e) in
    sym (eq-eqb (size - used) 0 (omega (arith, le)))

module _ (lanes : Lanes) (s : Subject) where
  pub end-refused : (n : ℕ) (p : Place) (es : List Event) (bytes : List ℕ) (r : Refusal) → SeesTable lanes s.elf s.header bytes (Err r) → verdict_from lanes s 0 n p es bytes ≡ Refuse r
  end-refused n p es bytes r sees = table-refused lanes s.elf s.input s.header s.output n p es bytes r sees

  pub end-told : (n : ℕ) (p : Place) (es : List Event) (bytes : List ℕ) (seen : TableSeen) (reads writes : List ℕ) (trailing : Bool) → SeesTable lanes s.elf s.header bytes (Ok seen)
      → ((ts : List TableEntry) → seen.reads.lanes ≡ digest lanes (map tuple_last ts) → reads ≡ digest lanes (map tuple_read es ++ map tuple_last ts))
      → ((ts : List TableEntry) → seen.writes.lanes ≡ digest lanes (map (first_tuple s.elf s.header) ts) → writes ≡ digest lanes (map tuple_written es ++ map (first_tuple s.elf s.header) ts))
      → trailing ≡ nat_lt seen.used (length bytes)
      → ended s.header p (record { reads = reads; writes = writes }) seen.entries trailing ≡ verdict_from lanes s 0 n p es bytes
  end-told n p es bytes seen reads writes trailing sees read written follows =
      let x = sees.0 in
      let k = sees.2 in
      let h = s.header in
      let reads_are = read x.0 k.reads in
      let writes_are = written x.0 k.writes in
      let left : (length x.1 == 0) ≡ (length bytes - seen.used == 0) = ap (λ m. m == 0) (ap length k.left ∙ length-drop seen.used bytes) in
      let none = nothing-left trailing seen.used (length bytes) follows ∙ sym left in
      let at : ℕ → List ℕ → List ℕ → Bool → Verdict = λ m rs ws b. told h (unless_broken h.shards m ((25, p.input == h.consumed && p.output == h.length) ∷ (26, bytes_eq rs ws) ∷ (27, b) ∷ []) p) in
      (λ t. at (k.entries t) (reads_are t) (writes_are t) (none t))
      ∙ sym (table-taken lanes s.elf s.input h s.output n p es bytes x sees.1)
