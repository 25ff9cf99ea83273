-- The machine judges a file as the definition by whole parts does.
use Rattle.std.proofs.Common.{◌≡◌, ℕ, zero, suc, ◌+◌, ◌*◌, ◌<◌, ◌≤◌, Bool, true, ◌&&◌, ◌==◌, nat_le, List, [], ◌∷◌, ◌++◌, length, map, take, drop, Option, Some, None, Result, Ok, Err, refl, sym, ap, ◌∙◌, arith}
use Rattle.std.specs.List.{flat_map}
use Rattle.std.specs.Int.{div_ceil}
use Rattle.std.proofs.lemmas.Bool.{eqb-true, leb-true, and_parts}
use Rattle.std.proofs.lemmas.Grind.{div_ceil_times}
use Rattle.std.proofs.Math.Nat.{mul-le-mul_right}
use Rattle.rv_base.specs.declared.record.Header.{Header}
use Rattle.rv_base.specs.declared.record.Place.{Place}
use Rattle.rv_base.specs.declared.record.Refusal.{Refusal}
use Rattle.rv_base.specs.declared.record.TableEntry.{TableEntry}
use Rattle.rv_spec.specs.Words.{u32_at}
use Rattle.rv_spec.specs.Digest.{Lanes}
use Rattle.rv_spec.specs.Tuples.{Event, events, tuple_read, tuple_written, tuple_last}
use Rattle.rv_spec.specs.Record.{Shard, Parts, reads as reads_of, writes as writes_of}
use Rattle.rv_rules.specs.Checks.{Check, first_broken, unless_broken, ◌>>=◌}
use Rattle.rv_rules.specs.Verdict.{verdict_of, judge}
use Rattle.rv_rules.specs.Reading.{Reading, header_of, header_checks, read_shards, read_entries, end_checks, first_place, read_file}
use Rattle.rv_reading.specs.Stream.{State, reads, onwards}
use Rattle.rv_reading.specs.Machine.{Phase, no_sums, tuple_sums, event_sums, shards_events, first_tuple, last_cell, step, step_to, judged, finding, told}
use Rattle.rv_reading.specs.Machine.Phase.{Shards, Rows, Entries}
use Rattle.rv_reading.specs.Machine.Extent.{WholeFile}
use Rattle.rv_reading.specs.Parts.{runs, WholeFileIsRead}
use Rattle.rv_reading.specs.Judging.{JudgedIsRead, VerdictIsTold}
use Rattle.rv_reading.proofs.CheckLists.{refused-by-ok, all-hold}
use Rattle.rv_reading.proofs.Binding.{bind-assoc, bind-same, bind-ok, checks-bind, checks-same}
use Rattle.rv_reading.proofs.RunningSums.{no_sums-sums}
use Rattle.rv_reading.proofs.ShardsRead.{behind_shards, shards-read}
use Rattle.rv_reading.proofs.TableRead.{count-step, behind_entries, entries-read, end-read}
use Rattle.rv_reading.proofs.ShardsEvents.{FullShards, events-are}

-- nothing but whether there is a value
abbrev seen : {A : Type 0} → A → Result (Unit {0}) Refusal
seen a = Ok tt

module _ (complete : Bool) (lanes : Lanes) (elf input : List ℕ) (h : Header) (output : List ℕ) where
  abbrev run : Phase → List ℕ → State Phase
  run p bytes = runs complete lanes elf input h output WholeFile p bytes

  abbrev parts_of : Reading (List Shard) → List TableEntry × List ℕ → Parts
  parts_of shards entries = record { header = h; output = output; shards = shards.part; table = entries.0 }

  abbrev closed : Reading (List Shard) → List TableEntry × List ℕ → Result Parts Refusal
  closed shards entries = unless_broken h.shards (u32_at shards.left 0) (end_checks complete lanes elf input h (parts_of shards entries) shards.place entries.1) (parts_of shards entries)

  -- what `read_file` does behind the shards
  abbrev behind : Reading (List Shard) → Result Parts Refusal
  behind shards = do
    after_count ← unless_broken h.shards 0 ((1, nat_le 4 (length shards.left)) ∷ []) (drop 4 shards.left)
    entries ← read_entries (u32_at shards.left 0) h 0 None after_count
    closed shards entries

  abbrev all_events : Reading (List Shard) → List Event
  all_events shards = events 0 (flat_map (λ s. s.rows) shards.part)

  -- the end of the file, behind these shards and entries
  end-is-read : (shards : Reading (List Shard)) (entries : List TableEntry × List ℕ)
      → finding (behind_entries complete lanes elf input h output WholeFile (u32_at shards.left 0) None shards.place (map tuple_read (all_events shards)) (map tuple_written (all_events shards)) entries)
      ≡ finding (closed shards entries)
  unfolding reads_of writes_of
  end-is-read shards entries =
      let count = u32_at shards.left 0 in
      let es = all_events shards in
      let rs = map tuple_read es ++ map tuple_last entries.0 in
      let ws = map tuple_written es ++ map (first_tuple elf h) entries.0 in
      let here : Phase × List ℕ = (Entries 0 count (last_cell None entries.0) shards.place (tuple_sums complete lanes rs ws), entries.1) in
      ap finding (end-read complete lanes elf input h output count (last_cell None entries.0) shards.place rs ws entries.1)
      ∙ checks-bind h.shards count (end_checks complete lanes elf input h (parts_of shards entries) shards.place entries.1) here (parts_of shards entries) seen seen refl

  table-is-read : (last : ℕ) (shards : Reading (List Shard)) → finding (run (Shards 0 last shards.place (event_sums complete lanes (all_events shards))) shards.left) ≡ finding (behind shards)
  table-is-read last shards =
      let bytes = shards.left in
      let count = u32_at bytes 0 in
      let rest = drop 4 bytes in
      let p = shards.place in
      let rs = map tuple_read (all_events shards) in
      let ws = map tuple_written (all_events shards) in
      let sums = tuple_sums complete lanes rs ws in
      let cs : List Check = (1, nat_le 4 (length bytes)) ∷ [] in
      let from : List ℕ → Result (List TableEntry × List ℕ) Refusal = λ z. read_entries count h 0 None z in
      let whole : List ℕ → Result Parts Refusal = λ z. from z >>= closed shards in
      let entries_behind : List TableEntry × List ℕ → State Phase = behind_entries complete lanes elf input h output WholeFile count None p rs ws in
      let onwards_from : Option (Phase × List ℕ) → State Phase = onwards run (Shards 0 last p sums, bytes) in
      let inner : finding (run (Entries count 0 None p sums) rest) ≡ finding (whole rest) =
      ap finding (entries-read complete lanes elf input h output WholeFile count 0 count None p rs ws rest (omega arith))
      ∙ bind-assoc (from rest) entries_behind seen
      ∙ bind-same (from rest) (λ x. finding (entries_behind x)) (λ x. finding (closed shards x)) (λ x _. end-is-read shards x)
      ∙ sym (bind-assoc (from rest) (closed shards) seen) in
      ap finding (count-step complete lanes elf input h output WholeFile refl last p sums bytes)
      ∙ bind-assoc (unless_broken h.shards 0 cs (Some (Entries count 0 None p sums, rest))) onwards_from seen
      ∙ checks-bind h.shards 0 cs (Some (Entries count 0 None p sums, rest)) rest (λ x. finding (onwards_from x)) (λ z. finding (whole z)) inner
      ∙ sym (bind-assoc (unless_broken h.shards 0 cs rest) whole seen)

  -- from the first shard to the end
  shards-and-table-are-read : (p : Place) (bytes : List ℕ) → FullShards h
      → finding (run (Shards h.shards 0 p no_sums) bytes) ≡ finding (read_shards complete lanes elf input h.shards h output 0 p bytes >>= behind)
  shards-and-table-are-read p bytes full_shards =
      let shards = read_shards complete lanes elf input h.shards h output 0 p bytes in
      let shards_behind : Reading (List Shard) → State Phase = behind_shards complete lanes elf input h output WholeFile h.shards 0 [] in
      let later : (x : Reading (List Shard)) → shards ≡ Ok x → finding (shards_behind x) ≡ finding (behind x) = λ x ok.
      let none : 0 * h.size ≡ 0 = omega arith in
      let es : shards_events h 0 x.part ≡ all_events x =
      events-are complete lanes elf input h output h.shards 0 p bytes x full_shards (omega arith) ok ∙ ap (λ k. events k (flat_map (λ s. s.rows) x.part)) none in
      ap (λ z. finding (run (Shards 0 h.shards x.place (event_sums complete lanes z)) x.left)) es ∙ table-is-read h.shards x in
      ap (λ z. finding (run (Shards h.shards 0 p z) bytes)) (no_sums-sums complete lanes)
      ∙ ap finding (shards-read complete lanes elf input h output WholeFile h.shards 0 h.shards [] p bytes (omega arith))
      ∙ bind-assoc shards shards_behind seen
      ∙ bind-same shards (λ x. finding (shards_behind x)) (λ x. finding (behind x)) later
      ∙ sym (bind-assoc shards behind seen)

  step-to-file : (p : Phase) (xs : List ℕ) → step_to complete lanes elf input h output WholeFile p xs ≡ step complete lanes elf input h output p xs
  step-to-file (Shards zero i p all) xs = refl
  step-to-file (Shards (suc n) i p all) xs = refl
  step-to-file (Rows n r m i s p all) xs = refl
  step-to-file (Entries zero j before p all) xs = refl
  step-to-file (Entries (suc n) j before p all) xs = refl

  pub whole-file-is-read : WholeFileIsRead complete lanes elf input h output
  whole-file-is-read p bytes = λ t. reads (λ q zs. step-to-file q zs t) p bytes

module _ (complete : Bool) (lanes : Lanes) (elf input : List ℕ) where
  more-than : (i q size steps : ℕ) → i + 2 ≤ q → q * size < steps + size → i * size + size ≤ steps
  more-than i q size steps le lt =
      let big : (i + 2) * size ≤ q * size = mul-le-mul_right size le in
      let is : (i + 2) * size ≡ i * size + size + size = omega arith in
      omega (arith, big, is, lt)

  -- a header whose checks hold states as many shards as the steps fill
  shards-are-full : (file : List ℕ) → first_broken (header_checks complete lanes elf input file) ≡ None → FullShards (header_of file)
  shards-are-full file e i lt =
      let h = header_of file in
      let shards_are : Bool = h.shards == div_ceil h.steps h.size in
      let from_fifth = (all-hold (header_checks complete lanes elf input file) e).1.1.1.1 in
      let size : 1 ≤ h.size = leb-true 1 h.size (and_parts (nat_le 1 h.size) (nat_le h.size 65536) from_fifth.0).0 in
      let counts = (and_parts (nat_le 1 h.steps && shards_are) (nat_le h.shards 65536) from_fifth.1.0).0 in
      let number : h.shards ≡ div_ceil h.steps h.size = eqb-true h.shards (div_ceil h.steps h.size) (and_parts (nat_le 1 h.steps) shards_are counts).1 in
      let bound : div_ceil h.steps h.size * h.size < h.steps + h.size = (div_ceil_times h.steps h.size (omega (arith, size))).1 in
      more-than i (div_ceil h.steps h.size) h.size h.steps (omega (arith, lt, number)) bound

  judged-is-read-so : (file : List ℕ) → finding (judged complete lanes elf input file) ≡ finding (read_file complete lanes elf input file)
  unfolding read_file
  judged-is-read-so file =
      let h = header_of file in
      let cs = header_checks complete lanes elf input file in
      let p = first_place complete lanes elf input h in
      let machine : List ℕ → State Phase = λ z. reads (step complete lanes elf input h (take h.length z)) (Shards h.shards 0 p no_sums) (drop h.length z) in
      let whole : List ℕ → Result Parts Refusal = λ z. read_shards complete lanes elf input h.shards h (take h.length z) 0 p (drop h.length z) >>= behind complete lanes elf input h (take h.length z) in
      let front = unless_broken 0 0 cs (drop 173 file) in
      bind-assoc front machine seen
      ∙ checks-same 0 0 cs (drop 173 file) (λ z. finding (machine z)) (λ z. finding (whole z)) (λ e.
      let output = take h.length (drop 173 file) in
      let bytes = drop h.length (drop 173 file) in
      sym (ap finding (whole-file-is-read complete lanes elf input h output (Shards h.shards 0 p no_sums) bytes)) ∙ shards-and-table-are-read complete lanes elf input h output p bytes (shards-are-full file e))
      ∙ sym (bind-assoc front whole seen)

  -- the header of the parts is that of the file
  header-kept : (file : List ℕ) (x : Parts) → read_file complete lanes elf input file ≡ Ok x → x.header ≡ header_of file
  unfolding read_file
  header-kept file x e =
      let h = header_of file in
      let p = first_place complete lanes elf input h in
      let shards_from : List ℕ → Result (Reading (List Shard)) Refusal = λ z. read_shards complete lanes elf input h.shards h (take h.length z) 0 p (drop h.length z) in
      let a = bind-ok (unless_broken 0 0 (header_checks complete lanes elf input file) (drop 173 file)) (λ z. shards_from z >>= behind complete lanes elf input h (take h.length z)) x e in
      let output = take h.length a.0 in
      let b = bind-ok (shards_from a.0) (behind complete lanes elf input h output) x a.2 in
      let s = b.0 in
      let count = u32_at s.left 0 in
      let end : List TableEntry × List ℕ → Result Parts Refusal = closed complete lanes elf input h output s in
      let made : List TableEntry × List ℕ → Parts = parts_of complete lanes elf input h output s in
      let c = bind-ok (unless_broken h.shards 0 ((1, nat_le 4 (length s.left)) ∷ []) (drop 4 s.left)) (λ z. read_entries count h 0 None z >>= end) x b.2 in
      let d = bind-ok (read_entries count h 0 None c.0) end x c.2 in
      ap (λ (z : Parts). z.header) (sym (refused-by-ok h.shards count (first_broken (end_checks complete lanes elf input h (made d.0) s.place d.0.1)) (made d.0) x d.2).1)

-- The law of the machine.
pub judged-is-read : JudgedIsRead
judged-is-read complete lanes elf input file = judged-is-read-so complete lanes elf input file

-- The law of the verdict.
pub verdict-is-told : VerdictIsTold
verdict-is-told lanes elf input file = from (judge lanes elf input file) refl ∙ sym (ap (λ z. told (header_of file) z) (judged-is-read true lanes elf input file)) ∙ forget (judged true lanes elf input file)
  where
    from : (r : Result Parts Refusal) → judge lanes elf input file ≡ r → verdict_of r ≡ told (header_of file) (finding r)
    from (Ok x) e = ap (λ (h : Header). told h (seen x)) (header-kept true lanes elf input file x e)
    from (Err r) e = refl

    forget : (s : State Phase) → told (header_of file) (finding s) ≡ told (header_of file) s
    forget (Ok x) = refl
    forget (Err r) = refl
