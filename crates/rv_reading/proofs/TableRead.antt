-- The machine reads the table that the definition by whole parts reads.
use Rattle.std.proofs.Common.{◌≡◌, ℕ, zero, suc, ◌+◌, Bool, false, nat_le, nat_lt, bytes_eq, ◌==◌, ◌&&◌, List, [], ◌∷◌, ◌++◌, length, map, drop, Option, Some, None, Result, Ok, refl, sym, ap, ◌∙◌, append_assoc, arith}
use Rattle.std.proofs.lemmas.List.{append-nil}
use Rattle.rv_base.specs.declared.record.Header.{Header}
use Rattle.rv_base.specs.declared.record.Place.{Place}
use Rattle.rv_base.specs.declared.record.Refusal.{Refusal}
use Rattle.rv_base.specs.declared.record.TableEntry.{TableEntry}
use Rattle.rv_base.specs.declared.record.Tuple.{Tuple}
use Rattle.rv_spec.specs.Words.{u32_at}
use Rattle.rv_spec.specs.Cells.{is_cell}
use Rattle.rv_spec.specs.Digest.{Lanes, digest}
use Rattle.rv_spec.specs.Tuples.{tuple_last}
use Rattle.rv_rules.specs.Checks.{Check, unless_broken, ◌>>=◌}
use Rattle.rv_rules.specs.Reading.{entry_of, above, when_complete, read_entries}
use Rattle.rv_reading.specs.Stream.{State, onwards}
use Rattle.rv_reading.specs.Machine.{Sums, Phase, Extent, is_shards_alone, no_sums, on_if, with_tuples, tuple_sums, first_tuple, last_cell, step}
use Rattle.rv_reading.specs.Machine.Phase.{Shards, Entries}
use Rattle.rv_reading.specs.Machine.Extent.{WholeFile, TableAlone, ShardsAlone}
use Rattle.rv_reading.specs.Parts.{runs, EntriesAreRead, TableAloneIsRead}
use Rattle.rv_reading.proofs.StepStream.{runs-step}
use Rattle.rv_reading.proofs.Binding.{bind-assoc, bind-same, checks-bind, checks-value}
use Rattle.rv_reading.proofs.RunningSums.{with_tuples-sums, no_sums-sums, equal-alike}

module _ (complete : Bool) (lanes : Lanes) (elf input : List ℕ) (h : Header) (output : List ℕ) (extent : Extent) where
  abbrev run : Phase → List ℕ → State Phase
  run p bytes = runs complete lanes elf input h output extent p bytes

  abbrev sums : List Tuple → List Tuple → Sums
  sums rs ws = tuple_sums complete lanes rs ws

  entry-step : (n j : ℕ) (before : Option ℕ) (p : Place) (all : Sums) (bytes : List ℕ)
      → run (Entries (suc n) j before p all) bytes
      ≡ (on_if h.shards j ((1, nat_le 16 (length bytes)) ∷ (22, above before (entry_of bytes).cell) ∷ (23, is_cell h.version (entry_of bytes).cell) ∷ (24, nat_lt 0 (entry_of bytes).time) ∷ [])
      (Entries n (j + 1) (Some (entry_of bytes).cell) p (with_tuples complete lanes all (tuple_last (entry_of bytes) ∷ []) (first_tuple elf h (entry_of bytes) ∷ []))) (drop 16 bytes)
      >>= onwards run (Entries (suc n) j before p all, bytes))
  unfolding step
  entry-step n j before p all bytes = runs-step complete lanes elf input h output extent (Entries (suc n) j before p all) bytes

  abbrev pub behind_entries : ℕ → Option ℕ → Place → List Tuple → List Tuple → List TableEntry × List ℕ → State Phase
  behind_entries total before p rs ws x = run (Entries zero total (last_cell before x.0) p (sums (rs ++ map tuple_last x.0) (ws ++ map (first_tuple elf h) x.0))) x.1

  pub entries-read : (n j total : ℕ) (before : Option ℕ) (p : Place) (rs ws : List Tuple) (bytes : List ℕ) → j + n ≡ total
      → run (Entries n j before p (sums rs ws)) bytes ≡ (read_entries n h j before bytes >>= behind_entries total before p rs ws)
  unfolding read_entries
  entries-read zero j total before p rs ws bytes sum =
      let at : j ≡ total = omega (arith, sum) in
      λ t. run (Entries zero (at t) before p (sums (sym (append-nil rs) t) (sym (append-nil ws) t))) bytes
  entries-read (suc n) j total before p rs ws bytes sum =
      let e = entry_of bytes in
      let cs : List Check = (1, nat_le 16 (length bytes)) ∷ (22, above before e.cell) ∷ (23, is_cell h.version e.cell) ∷ (24, nat_lt 0 e.time) ∷ [] in
      let rest = drop 16 bytes in
      let others_from : TableEntry × List ℕ → Result (List TableEntry × List ℕ) Refusal = λ x. read_entries n h (j + 1) (Some (x.0).cell) x.1 in
      let whole : TableEntry × List ℕ → Result (List TableEntry × List ℕ) Refusal = λ x. others_from x >>= λ y. Ok (x.0 ∷ y.0, y.1) in
      let next : List TableEntry × List ℕ → State Phase = behind_entries total before p rs ws in
      let with_last = rs ++ tuple_last e ∷ [] in
      let with_first = ws ++ first_tuple elf h e ∷ [] in
      let to : Sums → Phase = λ z. Entries n (j + 1) (Some e.cell) p z in
      let added = with_tuples complete lanes (sums rs ws) (tuple_last e ∷ []) (first_tuple elf h e ∷ []) in
      let inner : run (to added) rest ≡ (whole (e, rest) >>= next) =
      ap (λ z. run (to z) rest) (with_tuples-sums complete lanes rs ws (tuple_last e ∷ []) (first_tuple elf h e ∷ []))
      ∙ entries-read n (j + 1) total (Some e.cell) p with_last with_first rest (omega (arith, sum))
      ∙ bind-same (others_from (e, rest)) (behind_entries total (Some e.cell) p with_last with_first) (λ y. next (e ∷ y.0, y.1))
      (λ y _. λ t. run (Entries zero total (last_cell (Some e.cell) y.0) p (sums (append_assoc rs (tuple_last e ∷ []) (map tuple_last y.0) t) (append_assoc ws (first_tuple elf h e ∷ []) (map (first_tuple elf h) y.0) t))) y.1)
      ∙ sym (bind-assoc (others_from (e, rest)) (λ y. Ok (e ∷ y.0, y.1)) next) in
      entry-step n j before p (sums rs ws) bytes
      ∙ checks-bind h.shards j cs (Some (to added, rest)) (e, rest) (onwards run (Entries (suc n) j before p (sums rs ws), bytes)) (λ x. whole x >>= next) inner
      ∙ sym (bind-assoc (unless_broken h.shards j cs (e, rest)) whole next)

module _ (complete : Bool) (lanes : Lanes) (elf input : List ℕ) (h : Header) (output : List ℕ) where
  -- The law of entries.
  pub entries-are-read : EntriesAreRead complete lanes elf input h output
  entries-are-read extent n j before p rs ws bytes = entries-read complete lanes elf input h output extent n j (j + n) before p rs ws bytes refl

  pub count-step : (extent : Extent) → is_shards_alone extent ≡ false → (i : ℕ) (p : Place) (all : Sums) (bytes : List ℕ)
      → runs complete lanes elf input h output extent (Shards zero i p all) bytes
      ≡ (on_if h.shards 0 ((1, nat_le 4 (length bytes)) ∷ []) (Entries (u32_at bytes 0) 0 None p all) (drop 4 bytes)
      >>= onwards (runs complete lanes elf input h output extent) (Shards zero i p all, bytes))
  unfolding step
  count-step WholeFile e i p all bytes = runs-step complete lanes elf input h output WholeFile (Shards zero i p all) bytes
  count-step ShardsAlone e i p all bytes = absurd cc
  count-step TableAlone e i p all bytes = runs-step complete lanes elf input h output TableAlone (Shards zero i p all) bytes

  -- The law of the table alone.
  pub table-alone-is-read : TableAloneIsRead complete lanes elf input h output
  table-alone-is-read i p bytes =
      let count = u32_at bytes 0 in
      let rest = drop 4 bytes in
      let run : Phase → List ℕ → State Phase = runs complete lanes elf input h output TableAlone in
      let cs : List Check = (1, nat_le 4 (length bytes)) ∷ [] in
      let from : List ℕ → Result (List TableEntry × List ℕ) Refusal = λ z. read_entries count h 0 None z in
      let end : List TableEntry × List ℕ → State Phase = λ x.
      Ok (Entries zero count (last_cell None x.0) p (tuple_sums complete lanes (map tuple_last x.0) (map (first_tuple elf h) x.0)), x.1) in
      let inner : run (Entries count 0 None p no_sums) rest ≡ (from rest >>= end) =
      ap (λ z. run (Entries count 0 None p z) rest) (no_sums-sums complete lanes)
      ∙ entries-read complete lanes elf input h output TableAlone count 0 count None p [] [] rest (omega arith)
      ∙ bind-same (from rest) (behind_entries complete lanes elf input h output TableAlone count None p [] []) end
      (λ x _. runs-step complete lanes elf input h output TableAlone (Entries zero count (last_cell None x.0) p (tuple_sums complete lanes (map tuple_last x.0) (map (first_tuple elf h) x.0))) x.1) in
      count-step TableAlone refl i p no_sums bytes
      ∙ checks-bind h.shards 0 cs (Some (Entries count 0 None p no_sums, rest)) rest (onwards run (Shards zero i p no_sums, bytes)) (λ z. from z >>= end) inner

-- ---- the end of a file

module _ (complete : Bool) (lanes : Lanes) (elf input : List ℕ) (h : Header) (output : List ℕ) where
  abbrev run_file : Phase → List ℕ → State Phase
  run_file p bytes = runs complete lanes elf input h output WholeFile p bytes

  end-step : (j : ℕ) (before : Option ℕ) (p : Place) (all : Sums) (bytes : List ℕ)
      → run_file (Entries zero j before p all) bytes
      ≡ (unless_broken h.shards j
      ((25, when_complete complete lanes elf input (p.input == h.consumed && p.output == h.length)) ∷ (26, when_complete complete lanes elf input (bytes_eq all.reads all.writes)) ∷ (27, length bytes == 0) ∷ [])
      None >>= onwards run_file (Entries zero j before p all, bytes))
  unfolding step
  end-step j before p all bytes = runs-step complete lanes elf input h output WholeFile (Entries zero j before p all) bytes

  -- at the end of a file, the digests of all tuples are compared
  pub end-read : (j : ℕ) (before : Option ℕ) (p : Place) (rs ws : List Tuple) (bytes : List ℕ)
      → run_file (Entries zero j before p (tuple_sums complete lanes rs ws)) bytes
      ≡ unless_broken h.shards j
      ((25, when_complete complete lanes elf input (p.input == h.consumed && p.output == h.length)) ∷ (26, when_complete complete lanes elf input (bytes_eq (digest lanes rs) (digest lanes ws))) ∷ (27, length bytes == 0) ∷ [])
      (Entries zero j before p (tuple_sums complete lanes rs ws), bytes)
  end-read j before p rs ws bytes =
      let with : Bool → List Check = λ z. (25, when_complete complete lanes elf input (p.input == h.consumed && p.output == h.length)) ∷ (26, z) ∷ (27, length bytes == 0) ∷ [] in
      let here : Phase × List ℕ = (Entries zero j before p (tuple_sums complete lanes rs ws), bytes) in
      let none : Option (Phase × List ℕ) = None in
      end-step j before p (tuple_sums complete lanes rs ws) bytes
      ∙ ap (λ z. unless_broken h.shards j (with z) none >>= onwards run_file here) (equal-alike complete (digest lanes rs) (digest lanes ws))
      ∙ checks-value h.shards j (with (when_complete complete lanes elf input (bytes_eq (digest lanes rs) (digest lanes ws)))) none here (onwards run_file here) refl
