-- What is judged good has good form, and its parts are accepted.
use Rattle.std.proofs.Common.{◌≡◌, ℕ, zero, suc, ◌+◌, ◌*◌, true, false, ◌&&◌, ◌==◌, nat_le, List, [], ◌∷◌, ◌++◌, length, take, drop, map, None, Result, Ok, refl, sym, ◌∙◌, ap, subst, arith, bytes_eq}
use Rattle.std.specs.Prelude.{slice_index}
use Rattle.std.specs.List.{flat_map}
use Rattle.std.proofs.lemmas.Bool.{eqb-true}
use Rattle.std.proofs.lemmas.Slice.Eq.{bytes_eq-Decides}
use Rattle.sha2.specs.Sha512.{sha512}
use Rattle.rv_base.specs.declared.record.Header.{Header}
use Rattle.rv_base.specs.declared.record.Place.{Place}
use Rattle.rv_base.specs.declared.record.Refusal.{Refusal}
use Rattle.rv_base.specs.declared.record.ShardHead.{ShardHead}
use Rattle.rv_base.specs.declared.record.TableEntry.{TableEntry}
use Rattle.rv_spec.specs.Words.{AreBytes, u32_at}
use Rattle.rv_spec.specs.Elf.{image}
use Rattle.rv_spec.specs.Trace.{Row}
use Rattle.rv_spec.specs.Digest.{Lanes, digest}
use Rattle.rv_spec.specs.Tuples.{events, tuple_read, tuple_written}
use Rattle.rv_spec.specs.Record.{Shard, Parts, shard_rows, rows_length, all_rows, reads, writes}
use Rattle.rv_spec.specs.Grammar.{Spells}
use Rattle.rv_rules.specs.Checks.{Check, first_broken, unless_broken, ◌>>=◌}
use Rattle.rv_rules.specs.RowRules.{row_checks, row_rule, place_after}
use Rattle.rv_rules.specs.Reading.{Reading, header_of, head_of, row_of, digest_of, last_of, same_place, row_form, header_checks, read_row, read_rows, read_shard, read_shards, read_entries}
use Rattle.rv_rules.specs.Verdict.{judge, parse}
use Rattle.rv_rules.proofs.Lemmas.{left-true, right-true}
use Rattle.rv_file.proofs.Lemmas.{bind-ok, unless-ok, unless-holds, ok-is, row_in, rows_in, with_row, shard_in, shards_in, with_shard, agrees, begins, made, ends, ends_parse, after_header, after_shards, after_count, all_checks, parse-is, form-is-grammar}
use Rattle.rv_sound.specs.Accepted.{place_through, RowsHold, ShardHolds, ShardsHold, entry_place, IsAccepted}
use Rattle.rv_sound.proofs.Shards.{through-append}
use Rattle.rv_sound.proofs.RowFollows.{AllHold, all-hold, none-broken}
use Rattle.rv_sound.proofs.ReadingSteps.{at_place, Rows, heads, digests_hold, finishes, Shards, last_checks, from_count, from_shards, from_header, judged-by-steps}

split-checks : (cs ds : List Check) → first_broken (cs ++ ds) ≡ None → (first_broken cs ≡ None) × (first_broken ds ≡ None)
split-checks [] ds e = (refl, e)
split-checks ((k, true) ∷ cs) ds e = split-checks cs ds e
split-checks ((k, false) ∷ cs) ds e = absurd cc

module _ (lanes : Lanes) (elf input : List ℕ) where
  record RowRead (h : Header) (output : List ℕ) (i r : ℕ) (p q : Place) (bytes : List ℕ) (x : Reading Row) : Type 0 where
    pub form : row_in h output i r q bytes ≡ Ok (at_place x q)
    pub hold : row_rule h.version x.part (i * h.size + r) p (last_of h (i * h.size + r)) input output ≡ None
    pub place : x.place ≡ place_after h.version x.part p input

  row-read : (h : Header) (output : List ℕ) (i r : ℕ) (p q : Place) (bytes : List ℕ) (x : Reading Row) → read_row true lanes elf input h output i r p bytes ≡ Ok x → RowRead h output i r p q bytes x
  unfolding read_row
  row-read h output i r p q bytes x e =
      let step : ℕ = i * h.size + r in
      let rules : List Check = row_checks h.version (row_of bytes) step p (last_of h step) input output in
      let read : Reading Row = record { part = row_of bytes; place = place_after h.version (row_of bytes) p input; left = drop (9 + 21 * slice_index bytes 8) bytes } in
      let u = unless-ok i r (row_form bytes ++ rules) read x e in
      let both = split-checks (row_form bytes) rules u.0 in
      subst (λ (y : Reading Row). RowRead h output i r p q bytes y) u.1 (record { form = unless-holds i r (row_form bytes) (at_place read q) both.0; hold = both.1; place = refl })

  record RowsRead (n : ℕ) (h : Header) (output : List ℕ) (i r : ℕ) (p q : Place) (bytes : List ℕ) (x : Reading (List Row)) : Type 0 where
    pub form : rows_in n h output i r q bytes ≡ Ok (at_place x q)
    pub hold : RowsHold h input output (i * h.size + r) p x.part
    pub place : x.place ≡ place_through h.version input p x.part

  rows-read : (n : ℕ) (h : Header) (output : List ℕ) (i r : ℕ) (p q : Place) (bytes : List ℕ) (x : Reading (List Row)) → Rows lanes elf input n h output i r p bytes ≡ Ok x → RowsRead n h output i r p q bytes x
  unfolding read_rows
  rows-read zero h output i r p q bytes x e =
      let none : Reading (List Row) = record { part = []; place = p; left = bytes } in
      subst (λ (y : Reading (List Row)). RowsRead zero h output i r p q bytes y) (ok-is none x e) (record { form = refl; hold = tt; place = refl })
  rows-read (suc n) h output i r p q bytes x e =
      let a = bind-ok (read_row true lanes elf input h output i r p bytes) (λ first. Rows lanes elf input n h output i (r + 1) first.place first.left >>= λ others. Ok (with_row first others)) x e in
      let one : RowRead h output i r p q bytes a.0 = row-read h output i r p q bytes a.0 a.1 in
      let b = bind-ok (Rows lanes elf input n h output i (r + 1) a.0.place a.0.left) (λ others. Ok (with_row a.0 others)) x a.2 in
      let more : RowsRead n h output i (r + 1) a.0.place q a.0.left b.0 = rows-read n h output i (r + 1) a.0.place q a.0.left b.0 b.1 in
      let next : i * h.size + (r + 1) ≡ i * h.size + r + 1 = omega arith in
      subst (λ (y : Reading (List Row)). RowsRead (suc n) h output i r p q bytes y) (ok-is (with_row a.0 b.0) x b.2) (record {
        form =
            ap (λ (z : Result (Reading Row) Refusal). z >>= λ first. rows_in n h output i (r + 1) first.place first.left >>= λ others. Ok (with_row first others)) one.form
            ∙ ap (λ (z : Result (Reading (List Row)) Refusal). z >>= λ others. Ok (with_row (at_place a.0 q) others)) more.form;
        hold = (one.hold, subst (λ k. RowsHold h input output k (place_after h.version a.0.part p input) b.0.part) next (subst (λ (s : Place). RowsHold h input output (i * h.size + (r + 1)) s b.0.part) one.place more.hold));
        place = more.place ∙ ap (λ (s : Place). place_through h.version input s b.0.part) one.place;
      })

  -- ---- shards

  record ShardRead (h : Header) (output : List ℕ) (i : ℕ) (p q : Place) (bytes : List ℕ) (x : Reading Shard) : Type 0 where
    pub form : shard_in h output i q bytes ≡ Ok (at_place x q)
    pub hold : ShardHolds lanes h input output (i * h.size) p x.part
    pub place : x.place ≡ place_through h.version input p x.part.rows

  shard-read : (h : Header) (output : List ℕ) (i : ℕ) (p q : Place) (bytes : List ℕ) (x : Reading Shard) → read_shard true lanes elf input h output i p bytes ≡ Ok x → ShardRead h output i p q bytes x
  unfolding read_shard
  shard-read h output i p q bytes x e =
      let n : ℕ = shard_rows h.size h.steps i in
      let head : ShardHead = head_of bytes in
      let a = bind-ok (heads lanes elf input i n p bytes) (λ next. Rows lanes elf input n h output i 0 p next >>= finishes lanes elf input h i n head) x e in
      let u = unless-ok i 0 ((1, nat_le 32 (length bytes)) ∷ (9, head.index == i && head.rows == n && same_place head p) ∷ []) (drop 32 bytes) a.0 a.1 in
      let c : AllHold ((1, nat_le 32 (length bytes)) ∷ (9, head.index == i && head.rows == n && same_place head p) ∷ []) = all-hold ((1, nat_le 32 (length bytes)) ∷ (9, head.index == i && head.rows == n && same_place head p) ∷ []) u.0 in
      let counts : (head.index == i && head.rows == n) ≡ true = left-true (head.index == i && head.rows == n) (same_place head p) c.1.0 in
      let placed : same_place head p ≡ true = right-true (head.index == i && head.rows == n) (same_place head p) c.1.0 in
      let two : (head.pc == p.pc && head.input == p.input) ≡ true = left-true (head.pc == p.pc && head.input == p.input) (head.output == p.output) placed in
      let b = bind-ok (Rows lanes elf input n h output i 0 p a.0) (finishes lanes elf input h i n head) x a.2 in
      let rows : RowsRead n h output i 0 p q a.0 b.0 = rows-read n h output i 0 p q a.0 b.0 b.1 in
      let v = unless-ok i n ((20, rows_length b.0.part == head.bytes) ∷ (1, nat_le 256 (length b.0.left)) ∷ (21, digests_hold lanes elf input h i b.0) ∷ []) (made head b.0) x b.2 in
      let d : AllHold ((20, rows_length b.0.part == head.bytes) ∷ (1, nat_le 256 (length b.0.left)) ∷ (21, digests_hold lanes elf input h i b.0) ∷ []) = all-hold ((20, rows_length b.0.part == head.bytes) ∷ (1, nat_le 256 (length b.0.left)) ∷ (21, digests_hold lanes elf input h i b.0) ∷ []) v.0 in
      let same_reads = bytes_eq (digest_of b.0.left) (digest lanes (map tuple_read (events (i * h.size) b.0.part))) in
      let same_writes = bytes_eq (digest_of (drop 128 b.0.left)) (digest lanes (map tuple_written (events (i * h.size) b.0.part))) in
      let from : i * h.size + 0 ≡ i * h.size = omega arith in
      let begun : begins i n bytes ≡ Ok a.0 = unless-holds i 0 ((1, nat_le 32 (length bytes)) ∷ (9, agrees i n head) ∷ []) (drop 32 bytes)
      (none-broken ((1, nat_le 32 (length bytes)) ∷ (9, agrees i n head) ∷ []) (c.0, (ap (λ b. b && true) counts, tt))) ∙ ap (λ (l : List ℕ). Ok l) u.1 in
      let ended : ends i n head (at_place b.0 q) ≡ Ok (made head (at_place b.0 q)) = unless-holds i n ((20, rows_length b.0.part == head.bytes) ∷ (1, nat_le 256 (length b.0.left)) ∷ (21, true) ∷ []) (made head (at_place b.0 q))
      (none-broken ((20, rows_length b.0.part == head.bytes) ∷ (1, nat_le 256 (length b.0.left)) ∷ (21, true) ∷ []) (d.0, (d.1.0, (refl, tt)))) in
      subst (λ (y : Reading Shard). ShardRead h output i p q bytes y) v.1 (record {
        form =
            ap (λ (z : Result (List ℕ) Refusal). z >>= λ next. rows_in n h output i 0 q next >>= ends i n head) begun
            ∙ ap (λ (z : Result (Reading (List Row)) Refusal). z >>= ends i n head) rows.form ∙ ended;
        hold = record {
          pc = eqb-true head.pc p.pc (left-true (head.pc == p.pc) (head.input == p.input) two);
          taken = eqb-true head.input p.input (right-true (head.pc == p.pc) (head.input == p.input) two);
          put = eqb-true head.output p.output (right-true (head.pc == p.pc && head.input == p.input) (head.output == p.output) placed);
          rows = subst (λ k. RowsHold h input output k p b.0.part) from rows.hold;
          reads = (bytes_eq-Decides (digest_of b.0.left) (digest lanes (map tuple_read (events (i * h.size) b.0.part)))).0 (left-true same_reads same_writes d.1.1.0);
          writes = (bytes_eq-Decides (digest_of (drop 128 b.0.left)) (digest lanes (map tuple_written (events (i * h.size) b.0.part)))).0 (right-true same_reads same_writes d.1.1.0);
        };
        place = rows.place;
      })

  record ShardsRead (n : ℕ) (h : Header) (output : List ℕ) (i : ℕ) (p q : Place) (bytes : List ℕ) (x : Reading (List Shard)) : Type 0 where
    pub form : shards_in n h output i q bytes ≡ Ok (at_place x q)
    pub hold : ShardsHold lanes h input output i p x.part
    pub place : x.place ≡ place_through h.version input p (flat_map (λ s. s.rows) x.part)

  shards-read : (n : ℕ) (h : Header) (output : List ℕ) (i : ℕ) (p q : Place) (bytes : List ℕ) (x : Reading (List Shard)) → Shards lanes elf input n h output i p bytes ≡ Ok x → ShardsRead n h output i p q bytes x
  unfolding read_shards
  shards-read zero h output i p q bytes x e =
      let none : Reading (List Shard) = record { part = []; place = p; left = bytes } in
      subst (λ (y : Reading (List Shard)). ShardsRead zero h output i p q bytes y) (ok-is none x e) (record { form = refl; hold = tt; place = refl })
  shards-read (suc n) h output i p q bytes x e =
      let a = bind-ok (read_shard true lanes elf input h output i p bytes) (λ first. Shards lanes elf input n h output (i + 1) first.place first.left >>= λ others. Ok (with_shard first others)) x e in
      let one : ShardRead h output i p q bytes a.0 = shard-read h output i p q bytes a.0 a.1 in
      let b = bind-ok (Shards lanes elf input n h output (i + 1) a.0.place a.0.left) (λ others. Ok (with_shard a.0 others)) x a.2 in
      let more : ShardsRead n h output (i + 1) a.0.place q a.0.left b.0 = shards-read n h output (i + 1) a.0.place q a.0.left b.0 b.1 in
      subst (λ (y : Reading (List Shard)). ShardsRead (suc n) h output i p q bytes y) (ok-is (with_shard a.0 b.0) x b.2) (record {
        form =
            ap (λ (z : Result (Reading Shard) Refusal). z >>= λ first. shards_in n h output (i + 1) first.place first.left >>= λ others. Ok (with_shard first others)) one.form
            ∙ ap (λ (z : Result (Reading (List Shard)) Refusal). z >>= λ others. Ok (with_shard (at_place a.0 q) others)) more.form;
        hold = (one.hold, subst (λ (s : Place). ShardsHold lanes h input output (i + 1) s b.0.part) one.place more.hold);
        place = more.place ∙ ap (λ (s : Place). place_through h.version input s (flat_map (λ s. s.rows) b.0.part)) one.place ∙ sym (through-append h.version input a.0.part.rows (flat_map (λ s. s.rows) b.0.part) p);
      })

  -- ---- the file

  -- the header's checks against the program hold, and those of form
  header-read : (file : List ℕ) → first_broken (header_checks true lanes elf input file) ≡ None → (first_broken (all_checks file) ≡ None) × ((header_of file).elf ≡ sha512 elf) × ((header_of file).input ≡ sha512 input)
  header-read file e =
      let c : AllHold (header_checks true lanes elf input file) = all-hold (header_checks true lanes elf input file) e in (
        none-broken (all_checks file) (c.0, (c.1.0, (refl, (refl, c.1.1.1.1)))),
        (bytes_eq-Decides (header_of file).elf (sha512 elf)).0 c.1.1.0,
        (bytes_eq-Decides (header_of file).input (sha512 input)).0 c.1.1.1.0,
      )

  -- what is judged good is parsed, and its parts are accepted beside their form
  record FileRead (file : List ℕ) (parts : Parts) : Type 0 where
    pub form : parse file ≡ Ok parts
    pub elf_hash : parts.header.elf ≡ sha512 elf
    pub input_hash : parts.header.input ≡ sha512 input
    pub shards : ShardsHold lanes parts.header input parts.output 0 (entry_place elf) parts.shards
    pub taken : (place_through parts.header.version input (entry_place elf) (all_rows parts)).input ≡ parts.header.consumed
    pub put : (place_through parts.header.version input (entry_place elf) (all_rows parts)).output ≡ parts.header.length
    pub balance : digest lanes (reads parts) ≡ digest lanes (writes (image parts.header.version elf) parts)

  file-read : (file : List ℕ) (parts : Parts) → judge lanes elf input file ≡ Ok parts → FileRead file parts
  file-read file parts e =
      let h : Header = header_of file in
      let q : Place = record { pc = (image 1 []).entry; input = 0; output = 0 } in
      let checks : List Check = header_checks true lanes elf input file in
      let a = bind-ok (unless_broken 0 0 checks (drop 173 file)) (from_header lanes elf input h) parts (sym (judged-by-steps lanes elf input file) ∙ e) in
      let u = unless-ok 0 0 checks (drop 173 file) a.0 a.1 in
      let header = header-read file u.0 in
      let output : List ℕ = take h.length a.0 in
      let rest : List ℕ = drop h.length a.0 in
      let b = bind-ok (Shards lanes elf input h.shards h output 0 (entry_place elf) rest) (from_shards lanes elf input h output) parts a.2 in
      let shards : ShardsRead h.shards h output 0 (entry_place elf) q rest b.0 = shards-read h.shards h output 0 (entry_place elf) q rest b.0 b.1 in
      let left : List ℕ = b.0.left in
      let c = bind-ok (unless_broken h.shards 0 ((1, nat_le 4 (length left)) ∷ []) (drop 4 left)) (from_count lanes elf input h output b.0) parts b.2 in
      let count : ℕ = u32_at left 0 in
      let finish : List TableEntry × List ℕ → Result Parts Refusal = λ entries. unless_broken h.shards count (last_checks lanes elf input (record { header = h; output = output; shards = b.0.part; table = entries.0 }) b.0.place entries.1) (record { header = h; output = output; shards = b.0.part; table = entries.0 }) in
      let d = bind-ok (read_entries count h 0 None c.0) finish parts c.2 in
      let made : Parts = record { header = h; output = output; shards = b.0.part; table = d.0.0 } in
      let v = unless-ok h.shards count (last_checks lanes elf input made b.0.place d.0.1) made parts d.2 in
      let k : AllHold (last_checks lanes elf input made b.0.place d.0.1) = all-hold (last_checks lanes elf input made b.0.place d.0.1) v.0 in
      let ended : ends_parse count made d.0.1 ≡ Ok made = unless-holds h.shards count ((25, true) ∷ (26, true) ∷ (27, length d.0.1 == 0) ∷ []) made (none-broken ((25, true) ∷ (26, true) ∷ (27, length d.0.1 == 0) ∷ []) (refl, (refl, k.1.1))) in
      subst (λ (y : Parts). FileRead file y) v.1 (record {
        form =
            parse-is file
            ∙ ap (λ (z : Result (List ℕ) Refusal). z >>= after_header ends_parse h) (unless-holds 0 0 (all_checks file) (drop 173 file) header.0 ∙ ap (λ (l : List ℕ). Ok l) u.1)
            ∙ ap (λ (z : Result (Reading (List Shard)) Refusal). z >>= after_shards ends_parse h output) shards.form
            ∙ ap (λ (z : Result (List ℕ) Refusal). z >>= after_count ends_parse h output (at_place b.0 q)) c.1
            ∙ ap (λ (z : Result (List TableEntry × List ℕ) Refusal). z >>= λ entries. ends_parse count (record { header = h; output = output; shards = b.0.part; table = entries.0 }) entries.1) d.1
            ∙ ended;
        elf_hash = header.1;
        input_hash = header.2;
        shards = shards.hold;
        taken = ap (λ (s : Place). s.input) (sym shards.place) ∙ eqb-true b.0.place.input h.consumed (left-true (b.0.place.input == h.consumed) (b.0.place.output == h.length) k.0);
        put = ap (λ (s : Place). s.output) (sym shards.place) ∙ eqb-true b.0.place.output h.length (right-true (b.0.place.input == h.consumed) (b.0.place.output == h.length) k.0);
        balance = (bytes_eq-Decides (digest lanes (reads made)) (digest lanes (writes (image h.version elf) made))).0 k.1.0;
      })

  pub judged-accepted : (file : List ℕ) (parts : Parts) → AreBytes file → judge lanes elf input file ≡ Ok parts → Spells parts file × IsAccepted lanes elf input parts
  judged-accepted file parts bytes e =
      let r : FileRead file parts = file-read file parts e in
      let spells : Spells parts file = (form-is-grammar file parts bytes).0 r.form in
      (spells, record { fit = spells.fit; elf_hash = r.elf_hash; input_hash = r.input_hash; shards = r.shards; taken = r.taken; put = r.put; balance = r.balance })
