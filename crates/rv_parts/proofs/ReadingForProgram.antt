-- Reading for a program, beside reading for form alone.
use Rattle.std.proofs.Common.{◌≡◌, ℕ, zero, suc, ◌+◌, ◌*◌, ◌≤◌, true, ◌&&◌, ◌==◌, List, [], ◌∷◌, ◌++◌, length, get_or, drop, map, Option, None, Some, Result, Ok, Err, refl, ap, ◌∙◌, arith}
use Rattle.std.specs.Prelude.{bytes_eq, nat_le}
use Rattle.rv_base.specs.declared.record.Header.{Header}
use Rattle.rv_base.specs.declared.record.Place.{Place}
use Rattle.rv_base.specs.declared.record.Refusal.{Refusal}
use Rattle.rv_spec.specs.Digest.{Lanes, digest}
use Rattle.rv_spec.specs.Record.{Shard, rows_length, shard_rows}
use Rattle.rv_spec.specs.Trace.{Row}
use Rattle.rv_spec.specs.Tuples.{events, tuple_read, tuple_written}
use Rattle.rv_rules.specs.Checks.{Check, first_broken, refused_by, unless_broken, ◌>>=◌}
use Rattle.rv_rules.specs.Reading.{Reading, digest_of, head_of, last_of, read_row, read_rows, read_shard, read_shards, row_form, row_of, same_place}
use Rattle.rv_rules.specs.RowRules.{place_after, row_checks}
use Rattle.rv_reading.proofs.Lemmas.{AllHold, Passed, Passed-first_broken, Passed-others, Passed-other, all-hold}
use Rattle.rv_file.proofs.Lemmas.{agrees, begins, bind-ok, ends, made, ok-is, row_in, rows_in, shard_in, shards_in, unless-ok, with_row, with_shard}
use Rattle.rv_judge.specs.Subject.{Subject}
use Rattle.rv_judge.specs.Alone.{can_stand, stated}
use Rattle.rv_parts.specs.Alone.{shards_alone, shards_at}

-- What was read is so, or it was refused by another rule than 1.
abbrev pub Ends : {A : Type 0} → (A → Type 0) → Result A Refusal → Type 0
Ends P (Ok x) = P x
Ends P (Err r) = ¬ (r.rule ≡ 1)

-- the same part, and the same bytes left
pub record IsAs {A : Type 0} (y x : Reading A) : Type 0 where
  pub part : x.part ≡ y.part
  pub left : x.left ≡ y.left

-- checks of which none of rule 1 is broken
passed-ends : {A : Type 0} (P : A → Type 0) (i r : ℕ) (cs : List Check) (a : A) → Passed cs → P a → Ends P (unless_broken i r cs a)
passed-ends P i r cs a passed holds = go (first_broken cs) refl
  where
    go : (o : Option ℕ) → first_broken cs ≡ o → Ends P (refused_by i r o a)
    go None e = holds
    go (Some rule) e = Passed-first_broken cs rule passed e

bind-ends : {A B : Type 0} (P : A → Type 0) (Q : B → Type 0) (r : Result A Refusal) (f : A → Result B Refusal) → Ends P r → ((x : A) → P x → Ends Q (f x)) → Ends Q (r >>= f)
bind-ends P Q (Ok x) f e next = next x e
bind-ends P Q (Err r) f e next = e

-- checks that hold in front
held-passed : (cs ds : List Check) → AllHold cs → Passed ds → Passed (cs ++ ds)
held-passed [] ds all passed = passed
held-passed (c ∷ cs) ds all passed = (λ _. all.0, λ _. held-passed cs ds all.1 passed)

-- a shard that was read for its form has a head
pub head-there : (h : Header) (output : List ℕ) (i : ℕ) (q : Place) (bytes : List ℕ) (y : Reading Shard) → shard_in h output i q bytes ≡ Ok y → nat_le 32 (length bytes) ≡ true
unfolding read_shard
head-there h output i q bytes y e =
    let n = shard_rows h.size h.steps i in
    let cs : List Check = (1, nat_le 32 (length bytes)) ∷ (9, agrees i n (head_of bytes)) ∷ [] in
    let a = bind-ok (begins i n bytes) (λ xs. rows_in n h output i 0 q xs >>= ends i n (head_of bytes)) y e in
    (all-hold cs (unless-ok i 0 cs (drop 32 bytes) a.0 a.1).0).0

module _ (lanes : Lanes) (elf input : List ℕ) where
  row-ends : (h : Header) (output : List ℕ) (i r : ℕ) (p q : Place) (bytes : List ℕ) (y : Reading Row) → row_in h output i r q bytes ≡ Ok y → Ends (IsAs y) (read_row true lanes elf input h output i r p bytes)
  unfolding read_row row_checks
  row-ends h output i r p q bytes y e =
      let row = row_of bytes in
      let step = i * h.size + r in
      let left = drop (9 + 21 * get_or bytes 8 0) bytes in
      let form : Reading Row = record { part = row; place = q; left = left } in
      let whole : Reading Row = record { part = row; place = place_after h.version row p input; left = left } in
      let rules = row_checks h.version row step p (last_of h step) input output in
      let u = unless-ok i r (row_form bytes) form y e in
      passed-ends (IsAs y) i r (row_form bytes ++ rules) whole
      (held-passed (row_form bytes) rules (all-hold (row_form bytes) u.0) (Passed-others rules refl))
      (record { part = ap (λ (x : Reading Row). x.part) u.1; left = ap (λ (x : Reading Row). x.left) u.1 })

  rows-end : (n : ℕ) (h : Header) (output : List ℕ) (i r : ℕ) (p q : Place) (bytes : List ℕ) (y : Reading (List Row)) → rows_in n h output i r q bytes ≡ Ok y
      → Ends (IsAs y) (read_rows true lanes elf input n h output i r p bytes)
  unfolding read_rows
  rows-end zero h output i r p q bytes y e =
      let none : Reading (List Row) = record { part = []; place = q; left = bytes } in
      let same = ok-is none y e in
      record { part = ap (λ (x : Reading (List Row)). x.part) same; left = ap (λ (x : Reading (List Row)). x.left) same }
  rows-end (suc n) h output i r p q bytes y e =
      let a = bind-ok (row_in h output i r q bytes) (λ first. rows_in n h output i (r + 1) first.place first.left >>= λ others. Ok (with_row first others)) y e in
      let b = bind-ok (rows_in n h output i (r + 1) a.0.place a.0.left) (λ others. Ok (with_row a.0 others)) y a.2 in
      let same = ok-is (with_row a.0 b.0) y b.2 in
      let others : Reading Row → Result (Reading (List Row)) Refusal = λ x. read_rows true lanes elf input n h output i (r + 1) x.place x.left in
      bind-ends (IsAs a.0) (IsAs y) (read_row true lanes elf input h output i r p bytes) (λ x. others x >>= λ o. Ok (with_row x o)) (row-ends h output i r p q bytes a.0 a.1) (λ x one.
      let here : rows_in n h output i (r + 1) a.0.place x.left ≡ Ok b.0 = ap (λ (xs : List ℕ). rows_in n h output i (r + 1) a.0.place xs) one.left ∙ b.1 in
      bind-ends (IsAs b.0) (IsAs y) (others x) (λ o. Ok (with_row x o)) (rows-end n h output i (r + 1) x.place a.0.place x.left b.0 here) (λ o more. record {
        part = (λ t. one.part t ∷ more.part t) ∙ ap (λ (z : Reading (List Row)). z.part) same;
        left = more.left ∙ ap (λ (z : Reading (List Row)). z.left) same;
      }))

  shard-ends : (h : Header) (output : List ℕ) (i : ℕ) (p q : Place) (bytes : List ℕ) (y : Reading Shard) → shard_in h output i q bytes ≡ Ok y
      → Ends (IsAs y) (read_shard true lanes elf input h output i p bytes)
  unfolding read_shard
  shard-ends h output i p q bytes y e =
      let n = shard_rows h.size h.steps i in
      let head = head_of bytes in
      let begin_form : List Check = (1, nat_le 32 (length bytes)) ∷ (9, agrees i n head) ∷ [] in
      let stand : List Check = (9, head.index == i && head.rows == n && same_place head p) ∷ [] in
      let a = bind-ok (begins i n bytes) (λ xs. rows_in n h output i 0 q xs >>= ends i n head) y e in
      let u = unless-ok i 0 begin_form (drop 32 bytes) a.0 a.1 in
      let b = bind-ok (rows_in n h output i 0 q a.0) (ends i n head) y a.2 in
      let end_form : List Check = (20, rows_length b.0.part == head.bytes) ∷ (1, nat_le 256 (length b.0.left)) ∷ (21, true) ∷ [] in
      let v = unless-ok i n end_form (made head b.0) y b.2 in
      let behind = all-hold end_form v.0 in
      let sums : Reading (List Row) → List Check = λ x.
      let es = events (i * h.size) x.part in
      (21, bytes_eq (digest_of x.left) (digest lanes (map tuple_read es)) && bytes_eq (digest_of (drop 128 x.left)) (digest lanes (map tuple_written es))) ∷ [] in
      let end : Reading (List Row) → List Check = λ x. (20, rows_length x.part == head.bytes) ∷ (1, nat_le 256 (length x.left)) ∷ sums x in
      let last : Reading (List Row) → Result (Reading Shard) Refusal = λ x. unless_broken i n (end x) (made head x) in
      let rows : List ℕ → Result (Reading (List Row)) Refusal = λ xs. read_rows true lanes elf input n h output i 0 p xs in
      bind-ends (λ (xs : List ℕ). xs ≡ drop 32 bytes) (IsAs y) (unless_broken i 0 ((1, nat_le 32 (length bytes)) ∷ stand) (drop 32 bytes)) (λ xs. rows xs >>= last)
      (passed-ends (λ (xs : List ℕ). xs ≡ drop 32 bytes) i 0 ((1, nat_le 32 (length bytes)) ∷ stand) (drop 32 bytes) (λ _. (all-hold begin_form u.0).0, λ _. Passed-others stand refl) refl)
      (λ xs at.
      let here : rows_in n h output i 0 q xs ≡ Ok b.0 = ap (λ (zs : List ℕ). rows_in n h output i 0 q zs) (at ∙ u.1) ∙ b.1 in
      bind-ends (IsAs b.0) (IsAs y) (rows xs) last (rows-end n h output i 0 p q xs b.0 here) (λ x are.
      let room : nat_le 256 (length x.left) ≡ true = ap (λ (zs : List ℕ). nat_le 256 (length zs)) are.left ∙ behind.1.0 in
      passed-ends (IsAs y) i n (end x) (made head x)
      (Passed-other 20 (rows_length x.part == head.bytes) ((1, nat_le 256 (length x.left)) ∷ sums x) refl (λ _. (λ _. room, λ _. Passed-others (sums x) refl)))
      (record {
        part = (λ t. record { head = head; rows = are.part t; reads = digest_of (are.left t); writes = digest_of (drop 128 (are.left t)) }) ∙ ap (λ (z : Reading Shard). z.part) v.1;
        left = ap (λ (zs : List ℕ). drop 256 zs) are.left ∙ ap (λ (z : Reading Shard). z.left) v.1;
      })))

  shards-end : (n : ℕ) (h : Header) (output : List ℕ) (i : ℕ) (p q : Place) (bytes : List ℕ) (y : Reading (List Shard)) → shards_in n h output i q bytes ≡ Ok y
      → Ends (IsAs y) (read_shards true lanes elf input n h output i p bytes)
  unfolding read_shards
  shards-end zero h output i p q bytes y e =
      let none : Reading (List Shard) = record { part = []; place = q; left = bytes } in
      let same = ok-is none y e in
      record { part = ap (λ (x : Reading (List Shard)). x.part) same; left = ap (λ (x : Reading (List Shard)). x.left) same }
  shards-end (suc n) h output i p q bytes y e =
      let a = bind-ok (shard_in h output i q bytes) (λ first. shards_in n h output (i + 1) first.place first.left >>= λ others. Ok (with_shard first others)) y e in
      let b = bind-ok (shards_in n h output (i + 1) a.0.place a.0.left) (λ others. Ok (with_shard a.0 others)) y a.2 in
      let same = ok-is (with_shard a.0 b.0) y b.2 in
      let others : Reading Shard → Result (Reading (List Shard)) Refusal = λ x. read_shards true lanes elf input n h output (i + 1) x.place x.left in
      bind-ends (IsAs a.0) (IsAs y) (read_shard true lanes elf input h output i p bytes) (λ x. others x >>= λ o. Ok (with_shard x o)) (shard-ends h output i p q bytes a.0 a.1) (λ x one.
      let here : shards_in n h output (i + 1) a.0.place x.left ≡ Ok b.0 = ap (λ (xs : List ℕ). shards_in n h output (i + 1) a.0.place xs) one.left ∙ b.1 in
      bind-ends (IsAs b.0) (IsAs y) (others x) (λ o. Ok (with_shard x o)) (shards-end n h output (i + 1) x.place a.0.place x.left b.0 here) (λ o more. record {
        part = (λ t. one.part t ∷ more.part t) ∙ ap (λ (z : Reading (List Shard)). z.part) same;
        left = more.left ∙ ap (λ (z : Reading (List Shard)). z.left) same;
      }))

-- Shards judged alone, from the place that the first states.
pub alone-ends : (lanes : Lanes) (s : Subject) (n i : ℕ) (q : Place) (bytes : List ℕ) (y : Reading (List Shard)) → 1 ≤ n → shards_in n s.header s.output i q bytes ≡ Ok y → Ends (IsAs y) (shards_alone lanes s n i bytes)
unfolding read_shards
alone-ends lanes s zero i q bytes y some e = absurd (omega (arith, some))
alone-ends lanes s (suc n) i q bytes y some e =
    let a = bind-ok (shard_in s.header s.output i q bytes) (λ first. shards_in n s.header s.output (i + 1) first.place first.left >>= λ others. Ok (with_shard first others)) y e in
    let room = head-there s.header s.output i q bytes a.0 a.1 in
    let stand : List Check = (9, can_stand (stated bytes) s.input s.output) ∷ [] in
    let checks : List Check = (1, nat_le 32 (length bytes)) ∷ stand in
    bind-ends (λ (xs : List ℕ). xs ≡ bytes) (IsAs y) (unless_broken i 0 checks bytes) (shards_at lanes s (suc n) i (stated bytes))
    (passed-ends (λ (xs : List ℕ). xs ≡ bytes) i 0 checks bytes (λ _. room, λ _. Passed-others stand refl) refl)
    (λ xs at. shards-end lanes s.elf s.input (suc n) s.header s.output i (stated bytes) q xs y (ap (λ (zs : List ℕ). shards_in (suc n) s.header s.output i q zs) at ∙ e))
