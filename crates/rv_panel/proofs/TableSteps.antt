-- The verdict on the table and the end, behind all shards.
use Rattle.std.proofs.Common.{◌≡◌, ℕ, zero, ◌+◌, true, ◌&&◌, ◌==◌, List, [], ◌∷◌, ◌++◌, length, drop, map, Option, Some, None, Result, Ok, Err, refl, sym, ap, ◌∙◌, arith}
use Rattle.std.specs.Prelude.{bytes_eq, nat_le}
use Rattle.rv_base.specs.declared.record.Header.{Header}
use Rattle.rv_base.specs.declared.record.Place.{Place}
use Rattle.rv_base.specs.declared.record.Refusal.{Refusal}
use Rattle.rv_base.specs.declared.record.TableEntry.{TableEntry}
use Rattle.rv_base.specs.declared.record.Verdict.TheVariants.{Refuse}
use Rattle.rv_spec.specs.Words.{u32_at}
use Rattle.rv_spec.specs.Digest.{Lanes}
use Rattle.rv_spec.specs.Tuples.{Event, tuple_read, tuple_written, tuple_last}
use Rattle.rv_rules.specs.Checks.{Check, first_broken, refused_by, unless_broken, ◌>>=◌}
use Rattle.rv_rules.specs.Reading.{read_entries}
use Rattle.rv_reading.specs.Stream.{State, onwards}
use Rattle.rv_reading.specs.Machine.{Phase, Sums, event_sums, tuple_sums, last_cell, first_tuple, step, step_to, told}
use Rattle.rv_reading.specs.Machine.Phase.{Shards, Entries}
use Rattle.rv_reading.specs.Machine.Extent.{WholeFile}
use Rattle.rv_reading.specs.Parts.{runs}
use Rattle.rv_reading.proofs.Lemmas.{entries-are-read, extents-are-streams, reads-step, bind-assoc, checks-bind, checks-value}

module _ (lanes : Lanes) (elf input : List ℕ) (h : Header) (output : List ℕ) where
  abbrev run : Phase → List ℕ → State Phase
  run q bytes = runs true lanes elf input h output WholeFile q bytes

  one-step : (q : Phase) (bytes : List ℕ) → run q bytes ≡ (step_to true lanes elf input h output WholeFile q bytes >>= onwards run (q, bytes))
  one-step q bytes = reads-step (step_to true lanes elf input h output WholeFile) (extents-are-streams true lanes elf input h output WholeFile) q bytes

  -- the number of the table's entries, and these
  abbrev pub table_read : List ℕ → Result (List TableEntry × List ℕ) Refusal
  table_read bytes = unless_broken h.shards 0 ((1, nat_le 4 (length bytes)) ∷ []) (drop 4 bytes) >>= read_entries (u32_at bytes 0) h 0 None

  -- the digests of all that was read and written
  abbrev pub all_sums : List Event → List TableEntry → Sums
  all_sums es table = tuple_sums true lanes (map tuple_read es ++ map tuple_last table) (map tuple_written es ++ map (first_tuple elf h) table)

  abbrev last_phase : ℕ → Place → List Event → List TableEntry → Phase
  last_phase count p es table = Entries zero (0 + count) (last_cell None table) p (all_sums es table)

  table-then-end : (i : ℕ) (p : Place) (es : List Event) (bytes : List ℕ)
      → run (Shards zero i p (event_sums true lanes es)) bytes ≡ (table_read bytes >>= λ x. run (last_phase (u32_at bytes 0) p es x.0) x.1)
  unfolding step
  table-then-end i p es bytes =
      let count = u32_at bytes 0 in
      let rest = drop 4 bytes in
      let cs : List Check = (1, nat_le 4 (length bytes)) ∷ [] in
      let q : Phase = Entries count 0 None p (event_sums true lanes es) in
      let entries : List ℕ → Result (List TableEntry × List ℕ) Refusal = λ z. read_entries count h 0 None z in
      let end : List TableEntry × List ℕ → State Phase = λ x. run (last_phase count p es x.0) x.1 in
      one-step (Shards zero i p (event_sums true lanes es)) bytes
      ∙ checks-bind h.shards 0 cs (Some (q, rest)) rest (onwards run (Shards zero i p (event_sums true lanes es), bytes)) (λ z. entries z >>= end) (entries-are-read true lanes elf input h output WholeFile count 0 None p (map tuple_read es) (map tuple_written es) rest)
      ∙ sym (bind-assoc (unless_broken h.shards 0 cs rest) entries end)

  -- the checks behind the table
  abbrev pub last_checks : Place → Sums → List ℕ → List Check
  last_checks p all left = (25, p.input == h.consumed && p.output == h.length) ∷ (26, bytes_eq all.reads all.writes) ∷ (27, length left == 0) ∷ []

  told-same : {A B : Type 0} (shard row : ℕ) (cs : List Check) (a : A) (b : B) → told h (unless_broken shard row cs a) ≡ told h (unless_broken shard row cs b)
  told-same shard row cs a b = go (first_broken cs)
    where
      go : (o : Option ℕ) → told h (refused_by shard row o a) ≡ told h (refused_by shard row o b)
      go None = refl
      go (Some rule) = refl

  at-end : (count : ℕ) (p : Place) (es : List Event) (table : List TableEntry) (left : List ℕ)
      → told h (run (last_phase count p es table) left) ≡ told h (unless_broken h.shards count (last_checks p (all_sums es table) left) p)
  unfolding step
  at-end count p es table left =
      let q = last_phase count p es table in
      let cs = last_checks p (all_sums es table) left in
      let here : Phase × List ℕ = (q, left) in
      let number : 0 + count ≡ count = omega arith in
      ap (told h) (one-step q left)
      ∙ ap (told h) (checks-value h.shards (0 + count) cs None here (onwards run (q, left)) refl)
      ∙ ap (λ n. told h (unless_broken h.shards n cs here)) number
      ∙ told-same h.shards count cs here p

  pub table-refused : (i : ℕ) (p : Place) (es : List Event) (bytes : List ℕ) (r : Refusal) → table_read bytes ≡ Err r → told h (run (Shards zero i p (event_sums true lanes es)) bytes) ≡ Refuse r
  table-refused i p es bytes r e = ap (told h) (table-then-end i p es bytes ∙ ap (λ s. s >>= λ x. run (last_phase (u32_at bytes 0) p es x.0) x.1) e)

  pub table-taken : (i : ℕ) (p : Place) (es : List Event) (bytes : List ℕ) (x : List TableEntry × List ℕ) → table_read bytes ≡ Ok x
      → told h (run (Shards zero i p (event_sums true lanes es)) bytes) ≡ told h (unless_broken h.shards (u32_at bytes 0) (last_checks p (all_sums es x.0) x.1) p)
  table-taken i p es bytes x e =
      ap (told h) (table-then-end i p es bytes ∙ ap (λ s. s >>= λ y. run (last_phase (u32_at bytes 0) p es y.0) y.1) e)
      ∙ at-end (u32_at bytes 0) p es x.0 x.1
