-- The spelling of accepted parts is judged good.
use Rattle.std.proofs.Common.{◌≡◌, ℕ, zero, suc, ◌+◌, ◌*◌, true, ◌&&◌, ◌==◌, nat_le, List, [], ◌∷◌, ◌++◌, length, take, drop, map, None, Result, Ok, refl, sym, ◌∙◌, ap, subst, arith, bytes_eq}
use Rattle.std.specs.Prelude.{slice_index}
use Rattle.std.specs.List.{flat_map}
use Rattle.std.proofs.lemmas.Bool.{eq-eqb, and_from}
use Rattle.std.proofs.lemmas.Slice.Eq.{bytes_eq-Decides}
use Rattle.sha2.specs.Sha512.{sha512}
use Rattle.rv_base.specs.declared.record.Header.{Header}
use Rattle.rv_base.specs.declared.record.Place.{Place}
use Rattle.rv_base.specs.declared.record.Refusal.{Refusal}
use Rattle.rv_base.specs.declared.record.ShardHead.{ShardHead}
use Rattle.rv_base.specs.declared.record.TableEntry.{TableEntry}
use Rattle.rv_spec.specs.Words.{u32_at}
use Rattle.rv_spec.specs.Elf.{image}
use Rattle.rv_spec.specs.Trace.{Row}
use Rattle.rv_spec.specs.Digest.{Lanes, digest}
use Rattle.rv_spec.specs.Tuples.{events, tuple_read, tuple_written}
use Rattle.rv_spec.specs.Record.{Shard, Parts, shard_rows, rows_length, all_rows, reads, writes}
use Rattle.rv_spec.specs.Grammar.{Spells}
use Rattle.rv_rules.specs.Checks.{Check, unless_broken, ◌>>=◌}
use Rattle.rv_rules.specs.RowRules.{row_checks, row_rule, place_after}
use Rattle.rv_rules.specs.Reading.{Reading, header_of, head_of, row_of, digest_of, last_of, same_place, row_form, header_checks, read_row, read_rows, read_shard, read_shards, read_entries}
use Rattle.rv_rules.specs.Verdict.{judge}
use Rattle.rv_rules.proofs.Lemmas.{left-true}
use Rattle.rv_file.proofs.Lemmas.{bind-ok, unless-ok, unless-holds, ok-is, row_in, rows_in, with_row, shard_in, shards_in, with_shard, agrees, begins, made, ends, front-holds, ends_parse, after_header, after_shards, after_count, all_checks, parse-is, is-parsed}
use Rattle.rv_sound.specs.Accepted.{place_through, RowsHold, ShardHolds, ShardsHold, entry_place, IsAccepted}
use Rattle.rv_sound.proofs.Shards.{through-append}
use Rattle.rv_sound.proofs.RowFollows.{AllHold, all-hold, none-broken}
use Rattle.rv_sound.proofs.ReadingSteps.{at_place, Rows, heads, digests_hold, finishes, Shards, last_checks, from_count, from_shards, from_header, judged-by-steps}

module _ (lanes : Lanes) (elf input : List ℕ) where
  row-judged : (h : Header) (output : List ℕ) (i r : ℕ) (p q : Place) (bytes : List ℕ) (x : Reading Row) → row_in h output i r q bytes ≡ Ok x
      → row_rule h.version x.part (i * h.size + r) p (last_of h (i * h.size + r)) input output ≡ None → read_row true lanes elf input h output i r p bytes ≡ Ok (at_place x (place_after h.version x.part p input))
  unfolding read_row
  row-judged h output i r p q bytes x e =
      let step : ℕ = i * h.size + r in
      let rules : List Check = row_checks h.version (row_of bytes) step p (last_of h step) input output in
      let read : Reading Row = record { part = row_of bytes; place = q; left = drop (9 + 21 * slice_index bytes 8) bytes } in
      let u = unless-ok i r (row_form bytes) read x e in
      subst (λ (y : Reading Row). row_rule h.version y.part step p (last_of h step) input output ≡ None → read_row true lanes elf input h output i r p bytes ≡ Ok (at_place y (place_after h.version y.part p input))) u.1
      (λ hold. unless-holds i r (row_form bytes ++ rules) (at_place read (place_after h.version (row_of bytes) p input)) (front-holds (row_form bytes) rules u.0 ∙ hold))

  rows-judged : (n : ℕ) (h : Header) (output : List ℕ) (i r : ℕ) (p q : Place) (bytes : List ℕ) (x : Reading (List Row)) → rows_in n h output i r q bytes ≡ Ok x → RowsHold h input output (i * h.size + r) p x.part
      → Rows lanes elf input n h output i r p bytes ≡ Ok (at_place x (place_through h.version input p x.part))
  unfolding read_rows
  rows-judged zero h output i r p q bytes x e =
      let none : Reading (List Row) = record { part = []; place = q; left = bytes } in
      subst (λ (y : Reading (List Row)). RowsHold h input output (i * h.size + r) p y.part → Rows lanes elf input zero h output i r p bytes ≡ Ok (at_place y (place_through h.version input p y.part))) (ok-is none x e) (λ hold. refl)
  rows-judged (suc n) h output i r p q bytes x e =
      let a = bind-ok (row_in h output i r q bytes) (λ first. rows_in n h output i (r + 1) first.place first.left >>= λ others. Ok (with_row first others)) x e in
      let b = bind-ok (rows_in n h output i (r + 1) a.0.place a.0.left) (λ others. Ok (with_row a.0 others)) x a.2 in
      let next : i * h.size + r + 1 ≡ i * h.size + (r + 1) = omega arith in
      let to : Place = place_after h.version a.0.part p input in
      subst (λ (y : Reading (List Row)). RowsHold h input output (i * h.size + r) p y.part → Rows lanes elf input (suc n) h output i r p bytes ≡ Ok (at_place y (place_through h.version input p y.part))) (ok-is (with_row a.0 b.0) x b.2)
      (λ hold.
      ap (λ (z : Result (Reading Row) Refusal). z >>= λ first. Rows lanes elf input n h output i (r + 1) first.place first.left >>= λ others. Ok (with_row first others)) (row-judged h output i r p q bytes a.0 a.1 hold.0)
      ∙ ap (λ (z : Result (Reading (List Row)) Refusal). z >>= λ others. Ok (with_row (at_place a.0 to) others))
      (rows-judged n h output i (r + 1) to a.0.place a.0.left b.0 b.1 (subst (λ k. RowsHold h input output k to b.0.part) next hold.1)))

  shard-judged : (h : Header) (output : List ℕ) (i : ℕ) (p q : Place) (bytes : List ℕ) (x : Reading Shard) → shard_in h output i q bytes ≡ Ok x → ShardHolds lanes h input output (i * h.size) p x.part
      → read_shard true lanes elf input h output i p bytes ≡ Ok (at_place x (place_through h.version input p x.part.rows))
  unfolding read_shard
  shard-judged h output i p q bytes x e =
      let n : ℕ = shard_rows h.size h.steps i in
      let head : ShardHead = head_of bytes in
      let a = bind-ok (begins i n bytes) (λ next. rows_in n h output i 0 q next >>= ends i n head) x e in
      let u = unless-ok i 0 ((1, nat_le 32 (length bytes)) ∷ (9, agrees i n head) ∷ []) (drop 32 bytes) a.0 a.1 in
      let c : AllHold ((1, nat_le 32 (length bytes)) ∷ (9, agrees i n head) ∷ []) = all-hold ((1, nat_le 32 (length bytes)) ∷ (9, agrees i n head) ∷ []) u.0 in
      let counts : (head.index == i && head.rows == n) ≡ true = left-true (head.index == i && head.rows == n) true c.1.0 in
      let b = bind-ok (rows_in n h output i 0 q a.0) (ends i n head) x a.2 in
      let v = unless-ok i n ((20, rows_length b.0.part == head.bytes) ∷ (1, nat_le 256 (length b.0.left)) ∷ (21, true) ∷ []) (made head b.0) x b.2 in
      let d : AllHold ((20, rows_length b.0.part == head.bytes) ∷ (1, nat_le 256 (length b.0.left)) ∷ (21, true) ∷ []) = all-hold ((20, rows_length b.0.part == head.bytes) ∷ (1, nat_le 256 (length b.0.left)) ∷ (21, true) ∷ []) v.0 in
      let from : i * h.size ≡ i * h.size + 0 = omega arith in
      let to : Place = place_through h.version input p b.0.part in
      let read : Reading (List Row) = at_place b.0 to in
      subst (λ (y : Reading Shard). ShardHolds lanes h input output (i * h.size) p y.part → read_shard true lanes elf input h output i p bytes ≡ Ok (at_place y (place_through h.version input p y.part.rows))) v.1
      (λ hold.
      let placed : same_place head p ≡ true = and_from (head.pc == p.pc && head.input == p.input) (head.output == p.output) (and_from (head.pc == p.pc) (head.input == p.input) (eq-eqb head.pc p.pc hold.pc) (eq-eqb head.input p.input hold.taken)) (eq-eqb head.output p.output hold.put) in
      let same_reads = bytes_eq (digest_of b.0.left) (digest lanes (map tuple_read (events (i * h.size) b.0.part))) in
      let same_writes = bytes_eq (digest_of (drop 128 b.0.left)) (digest lanes (map tuple_written (events (i * h.size) b.0.part))) in
      let digests : digests_hold lanes elf input h i b.0 ≡ true = and_from same_reads same_writes
      ((bytes_eq-Decides (digest_of b.0.left) (digest lanes (map tuple_read (events (i * h.size) b.0.part)))).1 hold.reads)
      ((bytes_eq-Decides (digest_of (drop 128 b.0.left)) (digest lanes (map tuple_written (events (i * h.size) b.0.part)))).1 hold.writes) in
      let checks : List Check = (1, nat_le 32 (length bytes)) ∷ (9, head.index == i && head.rows == n && same_place head p) ∷ [] in
      let begun : heads lanes elf input i n p bytes ≡ Ok a.0 = unless-holds i 0 checks (drop 32 bytes) (none-broken checks (c.0, (and_from (head.index == i && head.rows == n) (same_place head p) counts placed, tt))) ∙ ap (λ (l : List ℕ). Ok l) u.1 in
      let last : List Check = (20, rows_length b.0.part == head.bytes) ∷ (1, nat_le 256 (length b.0.left)) ∷ (21, digests_hold lanes elf input h i b.0) ∷ [] in
      ap (λ (z : Result (List ℕ) Refusal). z >>= λ next. Rows lanes elf input n h output i 0 p next >>= finishes lanes elf input h i n head) begun
      ∙ ap (λ (z : Result (Reading (List Row)) Refusal). z >>= finishes lanes elf input h i n head) (rows-judged n h output i 0 p q a.0 b.0 b.1 (subst (λ k. RowsHold h input output k p b.0.part) from hold.rows))
      ∙ unless-holds i n last (made head read) (none-broken last (d.0, (d.1.0, (digests, tt)))))

  shards-judged : (n : ℕ) (h : Header) (output : List ℕ) (i : ℕ) (p q : Place) (bytes : List ℕ) (x : Reading (List Shard)) → shards_in n h output i q bytes ≡ Ok x → ShardsHold lanes h input output i p x.part
      → Shards lanes elf input n h output i p bytes ≡ Ok (at_place x (place_through h.version input p (flat_map (λ s. s.rows) x.part)))
  unfolding read_shards
  shards-judged zero h output i p q bytes x e =
      let none : Reading (List Shard) = record { part = []; place = q; left = bytes } in
      subst (λ (y : Reading (List Shard)). ShardsHold lanes h input output i p y.part → Shards lanes elf input zero h output i p bytes ≡ Ok (at_place y (place_through h.version input p (flat_map (λ s. s.rows) y.part)))) (ok-is none x e) (λ hold. refl)
  shards-judged (suc n) h output i p q bytes x e =
      let a = bind-ok (shard_in h output i q bytes) (λ first. shards_in n h output (i + 1) first.place first.left >>= λ others. Ok (with_shard first others)) x e in
      let b = bind-ok (shards_in n h output (i + 1) a.0.place a.0.left) (λ others. Ok (with_shard a.0 others)) x a.2 in
      let to : Place = place_through h.version input p a.0.part.rows in
      let more : List Row = flat_map (λ s. s.rows) b.0.part in
      subst (λ (y : Reading (List Shard)). ShardsHold lanes h input output i p y.part → Shards lanes elf input (suc n) h output i p bytes ≡ Ok (at_place y (place_through h.version input p (flat_map (λ s. s.rows) y.part)))) (ok-is (with_shard a.0 b.0) x b.2)
      (λ hold.
      ap (λ (z : Result (Reading Shard) Refusal). z >>= λ first. Shards lanes elf input n h output (i + 1) first.place first.left >>= λ others. Ok (with_shard first others)) (shard-judged h output i p q bytes a.0 a.1 hold.0)
      ∙ ap (λ (z : Result (Reading (List Shard)) Refusal). z >>= λ others. Ok (with_shard (at_place a.0 to) others)) (shards-judged n h output (i + 1) to a.0.place a.0.left b.0 b.1 hold.1)
      ∙ ap (λ (s : Place). Ok (at_place (with_shard a.0 b.0) s)) (sym (through-append h.version input a.0.part.rows more p)))

  -- what spells accepted parts is judged good, and read as these parts
  pub accepted-judged : (file : List ℕ) (parts : Parts) → Spells parts file → IsAccepted lanes elf input parts → judge lanes elf input file ≡ Ok parts
  accepted-judged file parts spells =
      let h : Header = header_of file in
      let q : Place = record { pc = (image 1 []).entry; input = 0; output = 0 } in
      let a = bind-ok (unless_broken 0 0 (all_checks file) (drop 173 file)) (after_header ends_parse h) parts (sym (parse-is file) ∙ is-parsed file parts spells) in
      let u = unless-ok 0 0 (all_checks file) (drop 173 file) a.0 a.1 in
      let c : AllHold (all_checks file) = all-hold (all_checks file) u.0 in
      let output : List ℕ = take h.length a.0 in
      let rest : List ℕ = drop h.length a.0 in
      let b = bind-ok (shards_in h.shards h output 0 q rest) (after_shards ends_parse h output) parts a.2 in
      let left : List ℕ = b.0.left in
      let k = bind-ok (unless_broken h.shards 0 ((1, nat_le 4 (length left)) ∷ []) (drop 4 left)) (after_count ends_parse h output b.0) parts b.2 in
      let count : ℕ = u32_at left 0 in
      let parsed : List TableEntry × List ℕ → Result Parts Refusal = λ entries. ends_parse count (record { header = h; output = output; shards = b.0.part; table = entries.0 }) entries.1 in
      let d = bind-ok (read_entries count h 0 None k.0) parsed parts k.2 in
      let made : Parts = record { header = h; output = output; shards = b.0.part; table = d.0.0 } in
      let v = unless-ok h.shards count ((25, true) ∷ (26, true) ∷ (27, length d.0.1 == 0) ∷ []) made parts d.2 in
      let t : AllHold ((25, true) ∷ (26, true) ∷ (27, length d.0.1 == 0) ∷ []) = all-hold ((25, true) ∷ (26, true) ∷ (27, length d.0.1 == 0) ∷ []) v.0 in
      subst (λ (y : Parts). IsAccepted lanes elf input y → judge lanes elf input file ≡ Ok y) v.1
      (λ ok.
      let to : Place = place_through h.version input (entry_place elf) (all_rows made) in
      let checks : List Check = header_checks true lanes elf input file in
      let opened : unless_broken 0 0 checks (drop 173 file) ≡ Ok a.0 = unless-holds 0 0 checks (drop 173 file)
      (none-broken checks (c.0, (c.1.0, ((bytes_eq-Decides h.elf (sha512 elf)).1 ok.elf_hash, ((bytes_eq-Decides h.input (sha512 input)).1 ok.input_hash, c.1.1.1.1))))) ∙ ap (λ (l : List ℕ). Ok l) u.1 in
      let ended : List Check = last_checks lanes elf input made to d.0.1 in
      judged-by-steps lanes elf input file
      ∙ ap (λ (z : Result (List ℕ) Refusal). z >>= from_header lanes elf input h) opened
      ∙ ap (λ (z : Result (Reading (List Shard)) Refusal). z >>= from_shards lanes elf input h output) (shards-judged h.shards h output 0 (entry_place elf) q rest b.0 b.1 ok.shards)
      ∙ ap (λ (z : Result (List ℕ) Refusal). z >>= from_count lanes elf input h output (at_place b.0 to)) k.1
      ∙ ap (λ (z : Result (List TableEntry × List ℕ) Refusal). z >>= λ entries. unless_broken h.shards count (last_checks lanes elf input (record { header = h; output = output; shards = b.0.part; table = entries.0 }) to entries.1) (record { header = h; output = output; shards = b.0.part; table = entries.0 })) d.1
      ∙ unless-holds h.shards count ended made (none-broken ended (
        and_from (to.input == h.consumed) (to.output == h.length) (eq-eqb to.input h.consumed ok.taken) (eq-eqb to.output h.length ok.put),
        (
          (bytes_eq-Decides (digest lanes (reads made)) (digest lanes (writes (image h.version elf) made))).1 ok.balance,
          (t.1.1.0, tt),
        ),
      )))
