-- The summaries of parts without a fault tell the verdict on the file that they make.
use Rattle.std.proofs.Common.{◌≡◌, ℕ, suc, ◌+◌, ◌-◌, ◌<◌, ◌≤◌, Bool, true, false, not, ◌&&◌, ◌==◌, List, [], ◌∷◌, ◌++◌, length, map, drop, inl, inr, ◌⊎◌, Option, None, Some, Result, Ok, Err, refl, sym, ap, subst, ◌∙◌, append_assoc, arith}
use Rattle.std.specs.Prelude.{MatchResult, bytes_eq, replicate, if◌then◌else◌}
use Rattle.std.specs.List.{concat}
use Rattle.std.proofs.lemmas.Bool.{eq-eqb, eqb-true, eqb-false, false_from_ne_true, le-leb, lt-leb, cases_lt}
use Rattle.std.proofs.lemmas.List.{append-nil, length-append, map-append, nil_from_length}
use Rattle.rv_base.specs.declared.record.Header.{Header}
use Rattle.rv_base.specs.declared.record.Place.{Place}
use Rattle.rv_base.specs.declared.record.Refusal.{Refusal}
use Rattle.rv_base.specs.declared.record.ShardHead.{ShardHead}
use Rattle.rv_base.specs.declared.record.TableEntry.{TableEntry}
use Rattle.rv_base.specs.declared.record.Tuple.{Tuple}
use Rattle.rv_base.specs.declared.record.Verdict.{Verdict}
use Rattle.rv_base.specs.declared.record.Verdict.TheVariants.{Refuse}
use Rattle.rv_spec.specs.Digest.{Lanes, digest, digest_lane}
use Rattle.rv_spec.specs.Record.{Shard}
use Rattle.rv_spec.specs.Tuples.{Event, tuple_last, tuple_read, tuple_written}
use Rattle.rv_rules.specs.Checks.{unless_broken, ◌>>=◌}
use Rattle.rv_rules.specs.Reading.{Reading, first_place, head_of, header_checks, header_of, same_place}
use Rattle.rv_rules.specs.Sums.{add_lanes}
use Rattle.rv_rules.proofs.Lemmas.{digest-append}
use Rattle.rv_reading.specs.Machine.{Sums, event_sums, first_phase, first_tuple, no_sums, opened, step, shards_events, told, told as told_of}
use Rattle.rv_reading.specs.Stream.{outcome}
use Rattle.rv_reading.specs.Machine.Phase.{Shards}
use Rattle.rv_reading.specs.Machine.Extent.{WholeFile}
use Rattle.rv_reading.specs.Parts.{runs}
use Rattle.rv_reading.specs.Judging.{IsFront}
use Rattle.rv_reading.proofs.Lemmas.{verdict-behind-front, whole-file-is-read, head-front}
use Rattle.rv_elf.proofs.Lemmas.{image-is-program}
use Rattle.rv_judge.proofs.Lemmas.{header-checked}
use Rattle.rv_panel.proofs.Lemmas.{shards-within, displaced, from, no-head, place-stated, refuses, table-refused, table-taken}
use Rattle.rv_rules.specs.Verdict.{verdict}
use Rattle.rv_rowcheck.specs.RowChecking.{IsPlace}
use Rattle.rv_file.proofs.Lemmas.{unless-holds, unless-ok}
use Rattle.rv_judge.specs.Subject.{Subject}
use Rattle.rv_judge.specs.Alone.{can_stand, read_table, stated}
use Rattle.rv_panel.specs.Chaining.{verdict_from}
use Rattle.rv_parts.specs.declared.summaries.Summary.{Summary}
use Rattle.rv_parts.specs.Alone.{shards_alone, shards_at}
use Rattle.rv_parts.specs.Combining.{are_same, combined, combined_from, refused_at}
use Rattle.rv_parts.specs.Joining.{AreFaultless, Part, SummariesTellVerdict, behind_front}
use Rattle.rv_parts.specs.Cutting.{whole}
use Rattle.rv_parts.specs.Summaries.{Told, ends_elsewhere, is_last, place_before, shards_and_table_tell, shards_tell, told_in}
use Rattle.rv_parts.proofs.CombineLaws.{no-part, part-goes, part-refused}
use Rattle.rv_parts.proofs.Continuing.{many-shards, read-more, refused-more}
use Rattle.rv_parts.proofs.ShardsFollow.{all-alone-is, stands-through}

-- ---- the answer on a part

answer-short : (i : ℕ) (place : Place) (o : Option Place) (r : Option Refusal) → o ≡ None → refused_at i place o r ≡ Some (record { shard = i; row = 0; rule = 1 })
answer-short i place o r e = ap (λ z. refused_at i place z r) e

answer-other : (i : ℕ) (place stated_at : Place) (o : Option Place) (r : Option Refusal) → o ≡ Some stated_at → are_same stated_at place ≡ false → refused_at i place o r ≡ Some (record { shard = i; row = 0; rule = 9 })
answer-other i place stated_at o r e other = ap (λ z. refused_at i place z r) e ∙ ap (λ b. if b then r else Some (record { shard = i; row = 0; rule = 9 })) other

answer-same : (i : ℕ) (place stated_at : Place) (o : Option Place) (r : Option Refusal) → o ≡ Some stated_at → are_same stated_at place ≡ true → refused_at i place o r ≡ r
answer-same i place stated_at o r e same = ap (λ z. refused_at i place z r) e ∙ ap (λ b. if b then r else Some (record { shard = i; row = 0; rule = 9 })) same

stated-before : (body : List ℕ) → 32 ≤ length body → place_before body ≡ Some (stated body)
stated-before body le = ap (λ b. if b then Some (stated body) else None) (le-leb 32 (length body) le)

none-before : (body : List ℕ) → length body < 32 → place_before body ≡ None
none-before body lt = ap (λ b. if b then Some (stated body) else None) (lt-leb 32 (length body) lt)

-- what is not known to be false is true
was-true : (b : Bool) → not b ≡ false → b ≡ true
was-true true e = refl
was-true false e = absurd cc

twice : (b : Bool) → not (not b) ≡ b
twice true = refl
twice false = refl

module _ (lanes : Lanes) (s : Subject) where
  abbrev on : ℕ → ℕ → Place → List Event → List ℕ → Verdict
  on n i p es bytes = verdict_from lanes s n i p es bytes

  abbrev answer : Place → Summary → Option Refusal
  answer place x = refused_at x.first place x.before x.refusal

  -- the shards of a part are refused where they stand in the file, as its summary is behind the place
  pub record IsRefused (i : ℕ) (place : Place) (x : Summary) (total : ℕ) (es : List Event) (bytes : List ℕ) : Type 0 where
    pub r : Refusal
    pub answers : answer place x ≡ Some r
    pub verdict : on total i place es bytes ≡ Refuse r

  -- or its first head states the place
  pub record IsStated (i : ℕ) (place : Place) (x : Summary) (body : List ℕ) : Type 0 where
    pub long : 32 ≤ length body
    pub there : stated body ≡ place
    pub answers : answer place x ≡ x.refusal

  by-place : (i total n : ℕ) (place : Place) (es : List Event) (x : Summary) (body more : List ℕ) → total ≡ suc n → x.first ≡ i → x.before ≡ place_before body
      → (length body < 32 → length (body ++ more) < 32) → IsRefused i place x total es (body ++ more) ⊎ IsStated i place x body
  by-place i total n place es x body more count first before short = go (cases_lt (length body) 32)
    where
      placed : 32 ≤ length body → (b : Bool) → are_same (stated body) place ≡ b → IsRefused i place x total es (body ++ more) ⊎ IsStated i place x body
      placed le true same = inr (record {
        long = le;
        there = place-stated (head_of body) place same;
        answers = answer-same x.first place (stated body) x.before x.refusal (before ∙ stated-before body le) same;
      })
      placed le false other = inl (record {
        r = record { shard = i; row = 0; rule = 9 };
        answers = ap (λ k. refused_at k place x.before x.refusal) first ∙ answer-other i place (stated body) x.before x.refusal (before ∙ stated-before body le) other;
        verdict =
            ap (λ k. on k i place es (body ++ more)) count
            ∙ refuses lanes s.elf s.input s.header s.output n i es place (body ++ more) (record { shard = i; row = 0; rule = 9 })
            (displaced lanes s.elf s.input s.header s.output i place (body ++ more) (omega (arith, le, length-append body more)) (ap (λ (h : ShardHead). same_place h place) (head-front body more le) ∙ other));
      })

      go : (length body < 32) ⊎ (32 ≤ length body) → IsRefused i place x total es (body ++ more) ⊎ IsStated i place x body
      go (inl lt) = inl (record {
        r = record { shard = i; row = 0; rule = 1 };
        answers = ap (λ k. refused_at k place x.before x.refusal) first ∙ answer-short i place x.before x.refusal (before ∙ none-before body lt);
        verdict =
            ap (λ k. on k i place es (body ++ more)) count
            ∙ refuses lanes s.elf s.input s.header s.output n i es place (body ++ more) (record { shard = i; row = 0; rule = 1 }) (no-head lanes s.elf s.input s.header s.output i place (body ++ more) (short lt));
      })
      go (inr le) = placed le (are_same (stated body) place) refl

  -- so many shards that are refused
  shards-refused : (c m total i : ℕ) (place : Place) (es : List Event) (bytes : List ℕ) (r : Refusal) → total ≡ c + m → shards_at lanes s c i place bytes ≡ Err r → on total i place es bytes ≡ Refuse r
  shards-refused c m total i place es bytes r count e =
      ap (told s.header)
      (many-shards lanes s c m total i es place bytes count
      ∙ ap (λ (o : Result (Reading (List Shard)) Refusal). o >>= λ z. from lanes s.elf s.input s.header s.output m (i + c) z.place (es ++ shards_events s.header i z.part) z.left) e)

  shards-read : (c m total i : ℕ) (place : Place) (es : List Event) (bytes : List ℕ) (y : Reading (List Shard)) → total ≡ c + m → shards_at lanes s c i place bytes ≡ Ok y
      → on total i place es bytes ≡ on m (i + c) y.place (es ++ shards_events s.header i y.part) y.left
  shards-read c m total i place es bytes y count e =
      ap (told s.header)
      (many-shards lanes s c m total i es place bytes count
      ∙ ap (λ (o : Result (Reading (List Shard)) Refusal). o >>= λ z. from lanes s.elf s.input s.header s.output m (i + c) z.place (es ++ shards_events s.header i z.part) z.left) e)

  -- ---- a part other than the last

  abbrev IsTold : Summary → Result Told Refusal → Type 0
  IsTold x o = MatchResult o (λ t. (x.refusal ≡ None) × (told_in x ≡ t)) (λ r. x.refusal ≡ Some r)

  -- What is known behind a part that goes on: where the run stands, what was read and written, and the verdict from here.
  pub record GoesOn (i c m total : ℕ) (place : Place) (es : List Event) (x : Summary) (bytes more : List ℕ) : Type 0 where
    pub answers : answer place x ≡ None
    pub stands : IsPlace x.after s.input s.output
    pub events : List Event
    pub reads : x.reads.lanes ≡ digest lanes (map tuple_read events)
    pub writes : x.writes.lanes ≡ digest lanes (map tuple_written events)
    pub verdict : on total i place es bytes ≡ on m (i + c) x.after (es ++ events) more

  pub inner-by : (i c m total : ℕ) (place : Place) (es : List Event) (x : Summary) (body more : List ℕ) → total ≡ c + m → IsPlace place s.input s.output → answer place x ≡ x.refusal
      → (o : Result (Reading (List Shard)) Refusal) → shards_at lanes s c i place body ≡ o → ends_elsewhere o ≡ false → IsTold x (o >>= λ y. Ok (shards_tell lanes s i y))
      → IsRefused i place x total es (body ++ more) ⊎ GoesOn i c m total place es x (body ++ more) more
  inner-by i c m total place es x body more count is same (Err r) e whole told =
      inl (record {
        r = r;
        answers = same ∙ told;
        verdict = shards-refused c m total i place es (body ++ more) r count (refused-more lanes s c i place body more r e (λ one. eqb-false r.rule 1 whole one));
      })
  inner-by i c m total place es x body more count is same (Ok y) e whole told =
      let z = read-more lanes s c i place body more y e in
      let t = told.1 in
      let none : y.left ≡ [] = nil_from_length y.left (eqb-true (length y.left) 0 (was-true (length y.left == 0) whole)) in
      let after : z.0.place ≡ x.after = z.2.place ∙ sym (ap (λ (k : Told). k.after) t) in
      let left : z.0.left ≡ more = z.2.left ∙ ap (λ (xs : List ℕ). xs ++ more) none in
      let fs = shards_events s.header i z.0.part in
      inr (record {
        answers = same ∙ told.0;
        stands = subst (λ q. IsPlace q s.input s.output) after (stands-through lanes s c i place (body ++ more) z.0 is z.1);
        events = fs;
        reads = ap (λ (k : Told). k.reads) t ∙ sym (ap (λ (k : Sums). k.reads) z.2.sums);
        writes = ap (λ (k : Told). k.writes) t ∙ sym (ap (λ (k : Sums). k.writes) z.2.sums);
        verdict = shards-read c m total i place es (body ++ more) z.0 count z.1 ∙ (λ u. on m (i + c) (after u) (es ++ fs) (left u));
      })

  -- ---- the last part

  digests-with : (f : Event → Tuple) (es fs : List Event) (ts : List Tuple) (old new : List ℕ) → old ≡ digest lanes (map f es) → new ≡ digest lanes (map f fs ++ ts) → add_lanes old new ≡ digest lanes (map f (es ++ fs) ++ ts)
  digests-with f es fs ts old new old_is new_is =
      (λ t. add_lanes (old_is t) (new_is t))
      ∙ sym (digest-append lanes (map f es) (map f fs ++ ts))
      ∙ ap (λ (us : List Tuple). digest lanes us) (sym (append_assoc (map f es) (map f fs) ts) ∙ ap (λ (us : List Tuple). us ++ ts) (sym (map-append f es fs)))

  last-by : (i c total : ℕ) (place : Place) (es : List Event) (reads writes : List ℕ) (n : ℕ) (b : Bool) (x : Summary) (body : List ℕ) → total ≡ c + 0 → reads ≡ digest lanes (map tuple_read es) → writes ≡ digest lanes (map tuple_written es)
      → answer place x ≡ x.refusal → (o : Result (Reading (List Shard)) Refusal) → shards_at lanes s c i place body ≡ o → IsTold x (o >>= λ y. read_table s.header y.left >>= λ table. Ok (shards_and_table_tell lanes s i y table))
      → combined_from s.header place reads writes n b (x ∷ []) ≡ on total i place es body
  last-by i c total place es reads writes n b x body count read written same (Err r) e told =
      part-refused s.header place reads writes n b x [] r (same ∙ told) ∙ sym (shards-refused c 0 total i place es body r count e)
  last-by i c total place es reads writes n b x body count read written same (Ok y) e told = go (read_table s.header y.left) refl told
    where
      go : (o : Result (List TableEntry × List ℕ) Refusal) → read_table s.header y.left ≡ o → IsTold x (o >>= λ table. Ok (shards_and_table_tell lanes s i y table))
          → combined_from s.header place reads writes n b (x ∷ []) ≡ on total i place es body
      go (Err r) t found =
          part-refused s.header place reads writes n b x [] r (same ∙ found)
          ∙ sym (shards-read c 0 total i place es body y count e ∙ table-refused lanes s.elf s.input s.header s.output (i + c) y.place (es ++ shards_events s.header i y.part) y.left r t)
      go (Ok table) t found =
          let h = s.header in
          let fs = shards_events h i y.part in
          let is = found.1 in
          let all_read = digests-with tuple_read es fs (map tuple_last table.0) reads x.reads.lanes read (ap (λ (k : Told). k.reads) is) in
          let all_written = digests-with tuple_written es fs (map (first_tuple s.elf h) table.0) writes x.writes.lanes written (ap (λ (k : Told). k.writes) is) in
          let nothing : not x.trailing ≡ (length table.1 == 0) = ap (λ (k : Told). not k.trailing) is ∙ twice (length table.1 == 0) in
          let after = ap (λ (k : Told). k.after) is in
          let entries = ap (λ (k : Told). k.entries) is in
          let at : ℕ → Place → List ℕ → List ℕ → Bool → Verdict = λ m p rs ws d. told_of h (unless_broken h.shards m ((25, p.input == h.consumed && p.output == h.length) ∷ (26, bytes_eq rs ws) ∷ (27, d) ∷ []) p) in
          part-goes h place reads writes n b x [] (same ∙ found.0)
          ∙ no-part h x.after (add_lanes reads x.reads.lanes) (add_lanes writes x.writes.lanes) x.entries x.trailing
          ∙ (λ u. at (entries u) (after u) (all_read u) (all_written u) (nothing u))
          ∙ sym (shards-read c 0 total i place es body y count e ∙ table-taken lanes s.elf s.input h s.output (i + c) y.place (es ++ fs) y.left table t)

  -- ---- all parts

  digests-more : (f : Event → Tuple) (es fs : List Event) (old new : List ℕ) → old ≡ digest lanes (map f es) → new ≡ digest lanes (map f fs) → add_lanes old new ≡ digest lanes (map f (es ++ fs))
  digests-more f es fs old new old_is new_is =
      (λ t. add_lanes (old_is t) (new_is t)) ∙ sym (digest-append lanes (map f es) (map f fs)) ∙ ap (λ (us : List Tuple). digest lanes us) (sym (map-append f es fs))

  alone-short : (n i : ℕ) (bytes : List ℕ) → length bytes < 32 → shards_alone lanes s n i bytes ≡ Err (record { shard = i; row = 0; rule = 1 })
  alone-short n i bytes lt = ap (λ b. unless_broken i 0 ((1, b) ∷ (9, can_stand (stated bytes) s.input s.output) ∷ []) bytes >>= shards_at lanes s n i (stated bytes)) (lt-leb 32 (length bytes) lt)

  -- parts without a fault are as many as they say, and begin within the shards
  reach : (n k i : ℕ) (ps : List Part) (xs : List Summary) → AreFaultless lanes s n k i ps xs → (k + length ps ≡ n) × (i ≤ s.header.shards)
  reach n k i [] [] f = (omega (arith, f.0), omega (arith, f.1))
  reach n k i [] (x ∷ xs) f = absurd f
  reach n k i (p ∷ ps) [] f = absurd f
  reach n k i (p ∷ ps) (x ∷ xs) f = let more = reach n (k + 1) (i + p.head.count) ps xs f.2 in (omega (arith, more.0), omega (arith, more.1))

  pub joined : (n k i : ℕ) (place : Place) (es : List Event) (reads writes : List ℕ) (m : ℕ) (b : Bool) (p : Part) (ps : List Part) (xs : List Summary) → IsPlace place s.input s.output
      → reads ≡ digest lanes (map tuple_read es) → writes ≡ digest lanes (map tuple_written es) → AreFaultless lanes s n k i (p ∷ ps) xs
      → combined_from s.header place reads writes m b xs ≡ on (s.header.shards - i) i place es (concat (map (λ (q : Part). q.body) (p ∷ ps)))
  joined n k i place es reads writes m b p ps [] is read written f = absurd f
  joined n k i place es reads writes m b p [] (x ∷ y ∷ xs) is read written f = absurd f.2
  joined n k i place es reads writes m b p [] (x ∷ []) is read written f =
      let head = f.0 in
      let k_is = f.1.1 in
      let c = p.head.count in
      let total = s.header.shards - i in
      let last : is_last p.head ≡ true = eq-eqb (p.head.number + 1) p.head.parts (omega (arith, head.number, head.parts, f.2.0)) in
      let count : total ≡ c + 0 = omega (arith, f.2.1) in
      let some : total ≡ suc (total - 1) = omega (arith, f.2.1, head.some) in
      let nil = append-nil p.body in
      let go : IsRefused i place x total es (p.body ++ []) ⊎ IsStated i place x p.body → combined_from s.header place reads writes m b (x ∷ []) ≡ on total i place es (p.body ++ []) = λ o. elim o [
        | inl r ↦ part-refused s.header place reads writes m b x [] r.r r.answers ∙ sym r.verdict
        | inr st ↦
            let alone : shards_alone lanes s c p.head.first p.body ≡ shards_at lanes s c i place p.body = ap (λ j. shards_alone lanes s c j p.body) head.first ∙ all-alone-is lanes s c i place p.body st.long st.there is in
            let first = head.first in
            let found : IsTold x (shards_at lanes s c i place p.body >>= λ y. read_table s.header y.left >>= λ table. Ok (shards_and_table_tell lanes s i y table)) =
            subst (IsTold x) (λ t. alone t >>= λ y. if last t then (read_table s.header y.left >>= λ table. Ok (shards_and_table_tell lanes s (first t) y table)) else Ok (shards_tell lanes s (first t) y)) k_is.found in
            last-by i c total place es reads writes m b x p.body count read written st.answers (shards_at lanes s c i place p.body) refl found ∙ ap (λ (zs : List ℕ). on total i place es zs) (sym nil)
      ] in
      go (by-place i total (total - 1) place es x p.body [] some (k_is.first ∙ head.first) k_is.before (λ lt. omega (arith, lt, ap length nil)))
  joined n k i place es reads writes m b p (q ∷ ps) (x ∷ xs) is read written f =
      let head = f.0 in
      let k_is = f.1.1 in
      let c = p.head.count in
      let total = s.header.shards - i in
      let ahead = reach n (k + 1) (i + c) (q ∷ ps) xs f.2 in
      let other : is_last p.head ≡ false = false_from_ne_true (is_last p.head) (λ z. absurd (omega (arith, head.number, head.parts, ahead.0, eqb-true (p.head.number + 1) p.head.parts z))) in
      let left = s.header.shards - (i + c) in
      let count : total ≡ c + left = omega (arith, ahead.1) in
      let some : total ≡ suc (total - 1) = omega (arith, ahead.1, head.some) in
      let first = head.first in
      let more = concat (map (λ (o : Part). o.body) (q ∷ ps)) in
      let whole : ends_elsewhere (shards_alone lanes s c p.head.first p.body) ≡ false = ap (λ l. not l && ends_elsewhere (shards_alone lanes s c p.head.first p.body)) (sym other) ∙ f.1.0 in
      let short : length p.body < 32 → length (p.body ++ more) < 32 = λ lt.
      let cut : true ≡ false = sym (ap ends_elsewhere (alone-short c p.head.first p.body lt)) ∙ whole in
      absurd cc in
      let behind : GoesOn i c left total place es x (p.body ++ more) more → combined_from s.header place reads writes m b (x ∷ xs) ≡ on total i place es (p.body ++ more) = λ g.
      part-goes s.header place reads writes m b x xs g.answers
      ∙ joined n (k + 1) (i + c) x.after (es ++ g.events) (add_lanes reads x.reads.lanes) (add_lanes writes x.writes.lanes) x.entries x.trailing q ps xs g.stands
      (digests-more tuple_read es g.events reads x.reads.lanes read g.reads) (digests-more tuple_written es g.events writes x.writes.lanes written g.writes) f.2
      ∙ sym g.verdict in
      let settled : IsRefused i place x total es (p.body ++ more) ⊎ GoesOn i c left total place es x (p.body ++ more) more → combined_from s.header place reads writes m b (x ∷ xs) ≡ on total i place es (p.body ++ more) = λ o. elim o [
        | inl r ↦ part-refused s.header place reads writes m b x xs r.r r.answers ∙ sym r.verdict
        | inr g ↦ behind g
      ] in
      let go : IsRefused i place x total es (p.body ++ more) ⊎ IsStated i place x p.body → combined_from s.header place reads writes m b (x ∷ xs) ≡ on total i place es (p.body ++ more) = λ o. elim o [
        | inl r ↦ settled (inl r)
        | inr st ↦
            let alone : shards_alone lanes s c p.head.first p.body ≡ shards_at lanes s c i place p.body = ap (λ j. shards_alone lanes s c j p.body) first ∙ all-alone-is lanes s c i place p.body st.long st.there is in
            let found : IsTold x (shards_at lanes s c i place p.body >>= λ y. Ok (shards_tell lanes s i y)) =
            subst (IsTold x) (λ t. alone t >>= λ y. if other t then (read_table s.header y.left >>= λ table. Ok (shards_and_table_tell lanes s (first t) y table)) else Ok (shards_tell lanes s (first t) y)) k_is.found in
            settled (inner-by i c left total place es x p.body more count is st.answers (shards_at lanes s c i place p.body) refl (ap ends_elsewhere (sym alone) ∙ whole) found)
      ] in
      go (by-place i total (total - 1) place es x p.body more some (k_is.first ∙ head.first) k_is.before short)

nothing : (lanes : Lanes) → no_sums ≡ event_sums true lanes []
unfolding digest_lane
nothing lanes = refl

module _ (lanes : Lanes) (elf input front : List ℕ) (size : IsFront front) (passed : unless_broken 0 0 (header_checks true lanes elf input front) (header_of front) ≡ Ok (header_of front)) where
  abbrev h : Header
  h = header_of front

  abbrev first : Place
  first = first_place true lanes elf input h

  -- the verdict behind a front that breaks no check
  behind-front-is : (bytes : List ℕ) → verdict lanes elf input (front ++ bytes) ≡ verdict_from lanes (behind_front elf input front) h.shards 0 first [] bytes
  behind-front-is bytes =
      let checks = header_checks true lanes elf input front in
      let begun = first_phase true lanes elf input h in
      let none = (unless-ok 0 0 checks h h passed).0 in
      let opened-is : opened true lanes elf input front ≡ Ok (begun, []) = unless-holds 0 0 checks (begun, []) none in
      verdict-behind-front lanes elf input front bytes size
      ∙ ap (λ o. told h (outcome (step true lanes elf input h (drop 173 front)) o bytes)) opened-is
      ∙ ap (told h) (sym (whole-file-is-read true lanes elf input h (drop 173 front) begun bytes))
      ∙ ap (λ z. told h (runs true lanes elf input h (drop 173 front) WholeFile (Shards h.shards 0 first z) bytes)) (nothing lanes)

  some-shards : 1 ≤ h.shards
  some-shards = (shards-within h (header-checked lanes elf input front h passed).numbers).0

  tells-by : (parts : List Part) (xs : List Summary) → IsPlace first input (drop 173 front) → AreFaultless lanes (behind_front elf input front) (length parts) 0 0 parts xs
      → combined elf input h xs ≡ verdict lanes elf input (whole front (map (λ p. p.body) parts))
  tells-by [] [] is f = absurd (omega (arith, f.1, some-shards))
  tells-by [] (x ∷ xs) is f = absurd f
  tells-by (p ∷ ps) xs is f =
      let all : h.shards - 0 ≡ h.shards = omega arith in
      let bytes = concat (map (λ (q : Part). q.body) (p ∷ ps)) in
      joined lanes (behind_front elf input front) (length (p ∷ ps)) 0 0 first [] (replicate 16 0) (replicate 16 0) 0 false p ps xs is (ap (λ (z : Sums). z.reads) (nothing lanes)) (ap (λ (z : Sums). z.writes) (nothing lanes)) f
      ∙ ap (λ k. verdict_from lanes (behind_front elf input front) k 0 first [] bytes) all
      ∙ sym (behind-front-is bytes)

pub summaries-tell : SummariesTellVerdict
summaries-tell lanes elf input front parts xs bytes faultless size passed f =
    tells-by lanes elf input front size passed parts xs
    (record { aligned = (image-is-program (header_of front).version elf bytes faultless).aligned; taken = omega arith; put = omega arith }) f
