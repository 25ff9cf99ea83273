-- What the code makes of a part is its summary.
use Rattle.std.proofs.Common.{◌≡◌, ℕ, ◌-◌, ◌<◌, ◌≤◌, Bool, true, false, not, ◌&&◌, ◌==◌, List, ◌++◌, length, map, None, Some, Result, Ok, Err, refl, sym, ap, subst, ◌∙◌, arith}
use Rattle.std.specs.Prelude.{MatchResult, nat_lt, if◌then◌else◌}
use Rattle.std.proofs.lemmas.Bool.{ltb-true, ltb-false, eq-eqb, false_from_ne_true, eqb-true}
use Rattle.std.proofs.lemmas.List.{length-drop}
use Rattle.rv_base.specs.declared.record.Header.{Header}
use Rattle.rv_base.specs.declared.record.Refusal.{Refusal}
use Rattle.rv_base.specs.declared.record.TableEntry.{TableEntry}
use Rattle.rv_base.specs.declared.record.Tuple.{Tuple}
use Rattle.rv_spec.specs.Digest.{Lanes, digest}
use Rattle.rv_spec.specs.Record.{Shard}
use Rattle.rv_spec.specs.Tuples.{tuple_last, tuple_read, tuple_written}
use Rattle.rv_spec.specs.Words.{u32_at}
use Rattle.rv_rules.specs.Checks.{◌>>=◌}
use Rattle.rv_rules.specs.Reading.{Reading}
use Rattle.rv_reading.specs.Machine.{first_tuple, shards_events}
use Rattle.rv_judge.specs.declared.alone.TableSeen.{TableSeen}
use Rattle.rv_judge.specs.Subject.{Subject}
use Rattle.rv_judge.specs.Alone.{SeesTable, read_table}
use Rattle.rv_parts.specs.declared.heads.PartHead.{PartHead}
use Rattle.rv_parts.specs.declared.shards.ShardsSeen.{ShardsSeen}
use Rattle.rv_parts.specs.declared.summaries.Summary.{Summary}
use Rattle.rv_parts.specs.Alone.{AreShardsSeen, shards_alone}
use Rattle.rv_parts.specs.Summaries.{AddsTable, IsOfPart, IsSamePart, Summarizes, Told, ends_elsewhere, is_cut, is_last, place_before, shards_and_table_tell, shards_tell, tells, told_in}

-- a byte follows the table where it used fewer than all bytes
bytes-follow : (used size left : ℕ) → left ≡ size - used → nat_lt used size ≡ not (left == 0)
bytes-follow used size left is = go (nat_lt used size) refl
  where
    go : (b : Bool) → nat_lt used size ≡ b → nat_lt used size ≡ not (left == 0)
    go true e =
        let lt : used < size = ltb-true used size e in
        e ∙ ap not (sym (false_from_ne_true (left == 0) (λ z. absurd (omega (arith, lt, is, eqb-true left 0 z)))))
    go false e =
        let le : size ≤ used = ltb-false used size e in
        e ∙ ap not (sym (eq-eqb left 0 (omega (arith, le, is))))

pub table-added : (lanes : Lanes) (elf : List ℕ) (h : Header) (shards x : Summary) (bytes : List ℕ) (seen : TableSeen) → SeesTable lanes elf h bytes (Ok seen)
    → ((read ts : List Tuple) → shards.reads.lanes ≡ digest lanes read → seen.reads.lanes ≡ digest lanes ts → x.reads.lanes ≡ digest lanes (read ++ ts))
    → ((written ts : List Tuple) → shards.writes.lanes ≡ digest lanes written → seen.writes.lanes ≡ digest lanes ts → x.writes.lanes ≡ digest lanes (written ++ ts))
    → x.after ≡ shards.after → x.entries ≡ seen.entries → x.trailing ≡ nat_lt seen.used (length bytes) → x.refusal ≡ None → AddsTable lanes elf h shards bytes x
table-added lanes elf h shards x bytes seen sees add_reads add_writes after entries trailing none =
    let table = sees.0 in
    let k = sees.2 in
    let follow : x.trailing ≡ not (length table.1 == 0) = trailing ∙ bytes-follow seen.used (length bytes) (length table.1) (ap length k.left ∙ length-drop seen.used bytes) in
    let found : (read written : List Tuple) → shards.reads.lanes ≡ digest lanes read → shards.writes.lanes ≡ digest lanes written → (x.refusal ≡ None) × (told_in x ≡ record {
      after = shards.after;
      reads = digest lanes (read ++ map tuple_last table.0);
      writes = digest lanes (written ++ map (first_tuple elf h) table.0);
      entries = u32_at bytes 0;
      trailing = not (length table.1 == 0);
    }) = λ read written reads writes.
    let all_read = add_reads read (map tuple_last table.0) reads k.reads in
    let all_written = add_writes written (map (first_tuple elf h) table.0) writes k.writes in
    (none, λ t. record { after = after t; reads = all_read t; writes = all_written t; entries = (entries ∙ k.entries) t; trailing = follow t }) in
    subst (λ (o : Result (List TableEntry × List ℕ) Refusal). MatchResult o (λ y. (read written : List Tuple) → shards.reads.lanes ≡ digest lanes read → shards.writes.lanes ≡ digest lanes written → (x.refusal ≡ None) × (told_in x ≡ record {
      after = shards.after;
      reads = digest lanes (read ++ map tuple_last y.0);
      writes = digest lanes (written ++ map (first_tuple elf h) y.0);
      entries = u32_at bytes 0;
      trailing = not (length y.1 == 0);
    })) (λ r. x.refusal ≡ Some r)) (sym sees.1) found

pub table-refused : (lanes : Lanes) (elf : List ℕ) (h : Header) (shards x : Summary) (bytes : List ℕ) (r : Refusal) → read_table h bytes ≡ Err r → x.refusal ≡ Some r → AddsTable lanes elf h shards bytes x
table-refused lanes elf h shards x bytes r e some =
    subst (λ (o : Result (List TableEntry × List ℕ) Refusal). MatchResult o (λ y. (read written : List Tuple) → shards.reads.lanes ≡ digest lanes read → shards.writes.lanes ≡ digest lanes written → (x.refusal ≡ None) × (told_in x ≡ record {
      after = shards.after;
      reads = digest lanes (read ++ map tuple_last y.0);
      writes = digest lanes (written ++ map (first_tuple elf h) y.0);
      entries = u32_at bytes 0;
      trailing = not (length y.1 == 0);
    })) (λ t. x.refusal ≡ Some t)) (sym e) some

module _ (lanes : Lanes) (s : Subject) (head : PartHead) (body : List ℕ) where
  abbrev read : Result (Reading (List Shard)) Refusal
  read = shards_alone lanes s head.count head.first body

  abbrev goes_on : Bool → Reading (List Shard) → Result Told Refusal
  goes_on last y = if last then (read_table s.header y.left >>= λ table. Ok (shards_and_table_tell lanes s head.first y table)) else Ok (shards_tell lanes s head.first y)

  abbrev IsTold : Summary → Result Told Refusal → Type 0
  IsTold x o = MatchResult o (λ told. (x.refusal ≡ None) × (told_in x ≡ told)) (λ r. x.refusal ≡ Some r)

  summary-by : (x : Summary) (o : Result Told Refusal) → is_cut lanes s head body ≡ false → IsOfPart head (place_before body) x → tells lanes s head body ≡ o → IsTold x o → Summarizes lanes s head body (Ok x)
  summary-by x o whole part e told =
      (whole, record { first = part.first; count = part.count; before = part.stated; found = subst (IsTold x) (sym e) told })

  cut-is : (o : Result (Reading (List Shard)) Refusal) → read ≡ o → is_cut lanes s head body ≡ (not (is_last head) && ends_elsewhere o)
  cut-is o e = ap (λ (z : Result (Reading (List Shard)) Refusal). not (is_last head) && ends_elsewhere z) e

  told-by : (o : Result (Reading (List Shard)) Refusal) (b : Bool) → read ≡ o → is_last head ≡ b → tells lanes s head body ≡ (o >>= goes_on b)
  told-by o b e last = (λ t. e t >>= goes_on (last t))

  -- ---- a check of the shards is broken

  pub refused-summary : (x : Summary) (r : Refusal) → read ≡ Err r → (not (is_last head) && r.rule == 1) ≡ false → IsOfPart head (place_before body) x → x.refusal ≡ Some r → Summarizes lanes s head body (Ok x)
  refused-summary x r e whole part some = summary-by x (Err r) (cut-is (Err r) e ∙ whole) part (told-by (Err r) (is_last head) e refl) some

  pub cut-short : (r : Refusal) → read ≡ Err r → (not (is_last head) && r.rule == 1) ≡ true → is_cut lanes s head body ≡ true
  cut-short r e cut = cut-is (Err r) e ∙ cut

  -- ---- none is broken

  pub cut-long : (y : Reading (List Shard)) → read ≡ Ok y → is_last head ≡ false → (length y.left == 0) ≡ false → is_cut lanes s head body ≡ true
  cut-long y e other more = cut-is (Ok y) e ∙ (λ t. not (other t) && not (more t))

  pub inner-summary : (x : Summary) (y : Reading (List Shard)) (seen : ShardsSeen) → read ≡ Ok y → AreShardsSeen lanes s.header head.first seen y → is_last head ≡ false → (length y.left == 0) ≡ true
      → IsOfPart head (place_before body) x → told_in x ≡ record { after = seen.after; reads = seen.reads.lanes; writes = seen.writes.lanes; entries = 0; trailing = false } → x.refusal ≡ None → Summarizes lanes s head body (Ok x)
  inner-summary x y seen e k other none part told good =
      summary-by x (Ok (shards_tell lanes s head.first y)) (cut-is (Ok y) e ∙ (λ t. not (other t) && not (none t))) part (told-by (Ok y) false e other)
      (good, told ∙ (λ t. record { after = k.after t; reads = k.reads t; writes = k.writes t; entries = 0; trailing = false }))

  table-told : (shards x : Summary) (y : Reading (List Shard)) (o : Result (List TableEntry × List ℕ) Refusal) → shards.after ≡ y.place
      → shards.reads.lanes ≡ digest lanes (map tuple_read (shards_events s.header head.first y.part)) → shards.writes.lanes ≡ digest lanes (map tuple_written (shards_events s.header head.first y.part))
      → MatchResult o (λ table. (read written : List Tuple) → shards.reads.lanes ≡ digest lanes read → shards.writes.lanes ≡ digest lanes written → (x.refusal ≡ None) × (told_in x ≡ record {
        after = shards.after;
        reads = digest lanes (read ++ map tuple_last table.0);
        writes = digest lanes (written ++ map (first_tuple s.elf s.header) table.0);
        entries = u32_at y.left 0;
        trailing = not (length table.1 == 0);
      })) (λ r. x.refusal ≡ Some r)
      → IsTold x (o >>= λ table. Ok (shards_and_table_tell lanes s head.first y table))
  table-told shards x y (Ok table) after reads writes adds =
      let es = shards_events s.header head.first y.part in
      let told = adds (map tuple_read es) (map tuple_written es) reads writes in (
        told.0,
        told.1 ∙ (λ t. record {
          after = after t;
          reads = digest lanes (map tuple_read es ++ map tuple_last table.0);
          writes = digest lanes (map tuple_written es ++ map (first_tuple s.elf s.header) table.0);
          entries = u32_at y.left 0;
          trailing = not (length table.1 == 0);
        }),
      )
  table-told shards x y (Err r) after reads writes adds = adds

  pub last-summary : (shards x : Summary) (y : Reading (List Shard)) (seen : ShardsSeen) → read ≡ Ok y → AreShardsSeen lanes s.header head.first seen y → is_last head ≡ true → IsOfPart head (place_before body) shards
      → told_in shards ≡ record { after = seen.after; reads = seen.reads.lanes; writes = seen.writes.lanes; entries = 0; trailing = false } → IsSamePart shards x → AddsTable lanes s.elf s.header shards seen.rest.now x → Summarizes lanes s head body (Ok x)
  last-summary shards x y seen e k last part told same adds =
      let after : shards.after ≡ y.place = ap (λ (t : Told). t.after) told ∙ k.after in
      let reads : shards.reads.lanes ≡ digest lanes (map tuple_read (shards_events s.header head.first y.part)) = ap (λ (t : Told). t.reads) told ∙ k.reads in
      let writes : shards.writes.lanes ≡ digest lanes (map tuple_written (shards_events s.header head.first y.part)) = ap (λ (t : Told). t.writes) told ∙ k.writes in
      let adds_here : AddsTable lanes s.elf s.header shards y.left x = subst (λ (xs : List ℕ). AddsTable lanes s.elf s.header shards xs x) k.rest adds in
      summary-by x (goes_on true y) (cut-is (Ok y) e ∙ ap (λ b. not b && ends_elsewhere (Ok y)) last)
      (record { first = same.first ∙ part.first; count = same.count ∙ part.count; stated = same.stated ∙ part.stated })
      (told-by (Ok y) true e last)
      (table-told shards x y (read_table s.header y.left) after reads writes adds_here)
