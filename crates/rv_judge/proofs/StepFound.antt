-- What a step of the machine finds, in each phase, by the facts that decide it.
use Rattle.std.proofs.Common.{◌≡◌, ℕ, zero, suc, ◌+◌, ◌-◌, ◌*◌, ◌<◌, ◌≤◌, Bool, true, false, cond, not, ◌==◌, ◌&&◌, nat_le, bytes_eq, List, [], ◌∷◌, ◌++◌, length, drop, map, get_or, Option, Some, None, Ok, Err, refl, sym, ap, ◌∙◌, arith}
use Rattle.std.proofs.lemmas.Bool.{le-leb, leb-true}
use Rattle.std.proofs.lemmas.List.FromFn.{length-map-range_with_len}
use Rattle.rv_base.specs.declared.record.Header.{Header}
use Rattle.rv_base.specs.declared.record.Place.{Place}
use Rattle.rv_base.specs.declared.record.Refusal.{Refusal}
use Rattle.rv_base.specs.declared.record.ShardHead.{ShardHead}
use Rattle.rv_base.specs.declared.record.TableEntry.{TableEntry}
use Rattle.rv_spec.specs.Words.{u32_at}
use Rattle.rv_spec.specs.Trace.{Row}
use Rattle.rv_spec.specs.Digest.{Lanes}
use Rattle.rv_spec.specs.Tuples.{event, tuple_last}
use Rattle.rv_spec.specs.Record.{shard_rows, row_length}
use Rattle.rv_rules.specs.Checks.{Check, first_broken, refused_by}
use Rattle.rv_rules.specs.RowRules.{row_checks, row_rule, place_after}
use Rattle.rv_rules.specs.Reading.{head_of, access_of, row_of, row_form, row_size, entry_of, digest_of, same_place, last_of}
use Rattle.rv_reading.specs.Machine.{Sums, Inside, Phase, begin_shard, with_row, with_events, with_sums, with_tuples, first_tuple, step as machine_step}
use Rattle.rv_reading.specs.Machine.Phase.{Shards, Rows, Entries}
use Rattle.rv_judge.specs.Subject.{Subject, step}
use Rattle.rv_judge.specs.Phases.{entry_checks, end_checks}

-- ---- lists of checks

pub held : (rule : ℕ) (b : Bool) (cs : List Check) → b ≡ true → first_broken ((rule, b) ∷ cs) ≡ first_broken cs
held rule b cs e = ap (λ z. cond z (first_broken cs) (Some rule)) e

pub broke : (rule : ℕ) (b : Bool) (cs : List Check) → b ≡ false → first_broken ((rule, b) ∷ cs) ≡ Some rule
broke rule b cs e = ap (λ z. cond z (first_broken cs) (Some rule)) e

pub not-not : (b : Bool) → not (not b) ≡ b
not-not true = refl
not-not false = refl

few : (n k : ℕ) → n < k → nat_le k n ≡ false
few n k lt = go (nat_le k n) refl
  where
    go : (b : Bool) → nat_le k n ≡ b → b ≡ false
    go false e = refl
    go true e = let le = leb-true k n e in absurd (omega (arith, le, lt))

pub short : (n : ℕ) (xs : List ℕ) (cs : List Check) → length xs < n → first_broken ((1, nat_le n (length xs)) ∷ cs) ≡ Some 1
short n xs cs lt = broke 1 (nat_le n (length xs)) cs (few (length xs) n lt)

pub room : (n : ℕ) (xs : List ℕ) (cs : List Check) → n ≤ length xs → first_broken ((1, nat_le n (length xs)) ∷ cs) ≡ first_broken cs
room n xs cs le = held 1 (nat_le n (length xs)) cs (le-leb n (length xs) le)

-- checks in front of others
pub front-held : (cs bs : List Check) → first_broken cs ≡ None → first_broken (cs ++ bs) ≡ first_broken bs
front-held [] bs e = refl
front-held (a ∷ cs) bs e = go a.1 refl e (front-held cs bs)
  where
    go : (b : Bool) → a.1 ≡ b → cond b (first_broken cs) (Some a.0) ≡ None → (first_broken cs ≡ None → first_broken (cs ++ bs) ≡ first_broken bs) → first_broken (a ∷ cs ++ bs) ≡ first_broken bs
    go true f g later = held a.0 a.1 (cs ++ bs) f ∙ later g
    go false f g later = absurd cc

pub front-broke : (cs bs : List Check) (rule : ℕ) → first_broken cs ≡ Some rule → first_broken (cs ++ bs) ≡ Some rule
front-broke [] bs rule e = absurd cc
front-broke (a ∷ cs) bs rule e = go a.1 refl e (front-broke cs bs rule)
  where
    go : (b : Bool) → a.1 ≡ b → cond b (first_broken cs) (Some a.0) ≡ Some rule → (first_broken cs ≡ Some rule → first_broken (cs ++ bs) ≡ Some rule) → first_broken (a ∷ cs ++ bs) ≡ Some rule
    go true f g later = held a.0 a.1 (cs ++ bs) f ∙ later g
    go false f g later = broke a.0 a.1 (cs ++ bs) f ∙ g

-- a row is as long as its bytes
row_length-row_of : (bytes : List ℕ) → row_length (row_of bytes) ≡ row_size bytes
row_length-row_of bytes = ap (λ n. 9 + 21 * n) (length-map-range_with_len (λ j. access_of (drop (9 + 21 * j) bytes)) 0 (get_or bytes 8 0))

-- the rule that an entry breaks, by what was read of header and entry
pub entry-rule : (before : Option ℕ) (h k : Header) (e f : TableEntry) (o : Option ℕ) → h ≡ k → e ≡ f → first_broken (entry_checks h.version before e) ≡ o → first_broken (entry_checks k.version before f) ≡ o
entry-rule before h k e f o same entry is = ap (λ (z : Header). first_broken (entry_checks z.version before f)) (sym same) ∙ ap (λ (z : TableEntry). first_broken (entry_checks h.version before z)) (sym entry) ∙ is

module _ (lanes : Lanes) (s : Subject) where
  abbrev at : ℕ → ℕ → ℕ → Refusal
  at shard row rule = record { shard = shard; row = row; rule = rule }

  -- ---- the number of the table's entries

  pub count-short : (next : ℕ) (p : Place) (all : Sums) (bytes : List ℕ) → length bytes < 4 → step lanes s (Shards 0 next p all) bytes ≡ Err (at s.header.shards 0 1)
  unfolding machine_step
  count-short next p all bytes lt = ap (λ o. refused_by s.header.shards 0 o (Some (Entries (u32_at bytes 0) 0 None p all, drop 4 bytes))) (short 4 bytes [] lt)

  pub count-went : (next : ℕ) (p : Place) (all : Sums) (bytes : List ℕ) → 4 ≤ length bytes → step lanes s (Shards 0 next p all) bytes ≡ Ok (Some (Entries (u32_at bytes 0) 0 None p all, drop 4 bytes))
  unfolding machine_step
  count-went next p all bytes le = ap (λ o. refused_by s.header.shards 0 o (Some (Entries (u32_at bytes 0) 0 None p all, drop 4 bytes))) (room 4 bytes [] le)

  -- ---- the head of a shard

  abbrev rows_in : ℕ → ℕ
  rows_in i = shard_rows s.header.size s.header.steps i

  abbrev is_head_of : ShardHead → ℕ → ℕ → Place → Bool
  is_head_of head i rows p = head.index == i && head.rows == rows && same_place head p

  abbrev behind_head : ℕ → ℕ → Place → Sums → List ℕ → ShardHead → ℕ → Option (Phase × List ℕ)
  behind_head n i p all bytes head rows = Some (Rows rows 0 n i (begin_shard head) p all, drop 32 bytes)

  pub head-short : (left i : ℕ) (p : Place) (all : Sums) (bytes : List ℕ) → 0 < left → length bytes < 32 → step lanes s (Shards left i p all) bytes ≡ Err (at i 0 1)
  unfolding machine_step
  head-short zero i p all bytes some lt = absurd (omega (arith, some))
  head-short (suc n) i p all bytes some lt =
      ap (λ o. refused_by i 0 o (behind_head n i p all bytes (head_of bytes) (rows_in i))) (short 32 bytes ((9, is_head_of (head_of bytes) i (rows_in i) p) ∷ []) lt)

  module _ (left i : ℕ) (p : Place) (all : Sums) (bytes : List ℕ) (head : ShardHead) (rows : ℕ) (some : 0 < left) (le : 32 ≤ length bytes) (is : head ≡ head_of bytes) (many : rows ≡ rows_in i) where
    shard-answered : (n : ℕ) → 0 < n → (o : Option ℕ) → first_broken ((9, is_head_of head i rows p) ∷ []) ≡ o → step lanes s (Shards n i p all) bytes ≡ refused_by i 0 o (behind_head (n - 1) i p all bytes head rows)
    unfolding machine_step
    shard-answered zero more o e = absurd (omega (arith, more))
    shard-answered (suc n) more o e =
        ap (λ z. refused_by i 0 z (behind_head n i p all bytes (head_of bytes) (rows_in i))) (room 32 bytes ((9, is_head_of (head_of bytes) i (rows_in i) p) ∷ []) le)
        ∙ (λ t. refused_by i 0 (first_broken ((9, is_head_of (back is t) i (back many t) p) ∷ [])) (behind_head n i p all bytes (back is t) (back many t)))
        ∙ (λ t. refused_by i 0 (e t) (behind_head (less t) i p all bytes head rows))
      where
        back : {A : Type 0} {x y : A} → x ≡ y → y ≡ x
        back f = sym f

        less : n ≡ suc n - 1
        less = omega arith

    pub head-other : is_head_of head i rows p ≡ false → step lanes s (Shards left i p all) bytes ≡ Err (at i 0 9)
    head-other isnt = shard-answered left some (Some 9) (broke 9 (is_head_of head i rows p) [] isnt)

    pub head-went : is_head_of head i rows p ≡ true → step lanes s (Shards left i p all) bytes ≡ Ok (behind_head (left - 1) i p all bytes head rows)
    head-went sure = shard-answered left some None (held 9 (is_head_of head i rows p) [] sure)

  -- a shard has no more rows than the size
  pub rows-fit : (i : ℕ) → rows_in i ≤ s.header.size
  rows-fit i = omega arith

  -- ---- the digests of a shard

  abbrev are_stated : List ℕ → Sums → Bool
  are_stated bytes sums = bytes_eq (digest_of bytes) sums.reads && bytes_eq (digest_of (drop 128 bytes)) sums.writes

  abbrev behind_shard : ℕ → ℕ → Inside → Place → Sums → List ℕ → Option (Phase × List ℕ)
  behind_shard m i x p all bytes = Some (Shards m (i + 1) p (with_sums true lanes all x.sums), drop 256 bytes)

  module _ (left r m i : ℕ) (x : Inside) (p : Place) (all : Sums) (bytes : List ℕ) (none : left ≡ 0) where
    abbrev good : Bool
    good = are_stated bytes x.sums

    abbrev two : List Check
    two = (1, nat_le 256 (length bytes)) ∷ (21, good) ∷ []

    abbrev here : Phase
    here = Rows left r m i x p all

    digests-answered : (o : Option ℕ) → first_broken ((20, x.bytes == x.head.bytes) ∷ two) ≡ o → step lanes s here bytes ≡ refused_by i r o (behind_shard m i x p all bytes)
    unfolding machine_step
    digests-answered o e = none-left ∙ ap (λ z. refused_by i r z (behind_shard m i x p all bytes)) e
      where
        none-left : step lanes s here bytes ≡ step lanes s (Rows 0 r m i x p all) bytes
        none-left = ap (λ n. step lanes s (Rows n r m i x p all) bytes) none

    pub digests-other : (x.bytes == x.head.bytes) ≡ false → step lanes s here bytes ≡ Err (at i r 20)
    digests-other isnt = digests-answered (Some 20) (broke 20 (x.bytes == x.head.bytes) two isnt)

    pub digests-short : (x.bytes == x.head.bytes) ≡ true → length bytes < 256 → step lanes s here bytes ≡ Err (at i r 1)
    digests-short full lt = digests-answered (Some 1) (held 20 (x.bytes == x.head.bytes) two full ∙ short 256 bytes ((21, good) ∷ []) lt)

    pub digests-false : (x.bytes == x.head.bytes) ≡ true → 256 ≤ length bytes → good ≡ false → step lanes s here bytes ≡ Err (at i r 21)
    digests-false full le isnt = digests-answered (Some 21) (held 20 (x.bytes == x.head.bytes) two full ∙ room 256 bytes ((21, good) ∷ []) le ∙ broke 21 good [] isnt)

    pub digests-went : (x.bytes == x.head.bytes) ≡ true → 256 ≤ length bytes → good ≡ true → step lanes s here bytes ≡ Ok (behind_shard m i x p all bytes)
    digests-went full le sure = digests-answered None (held 20 (x.bytes == x.head.bytes) two full ∙ room 256 bytes ((21, good) ∷ []) le ∙ held 21 good [] sure)

  -- ---- a row

  abbrev rules_of : ℕ → ℕ → Place → Row → List Check
  rules_of i r p row = row_checks s.header.version row (i * s.header.size + r) p (last_of s.header (i * s.header.size + r)) s.input s.output

  abbrev behind_row : ℕ → ℕ → ℕ → ℕ → Inside → Place → Sums → Row → List ℕ → ℕ → Option (Phase × List ℕ)
  behind_row n r m i x p all row bytes k = Some (Rows n (r + 1) m i (with_row true lanes x (i * s.header.size + r) row) (place_after s.header.version row p s.input) all, drop k bytes)

  module _ (r m i : ℕ) (x : Inside) (p : Place) (all : Sums) (bytes : List ℕ) where
    row-answered : (left : ℕ) → 0 < left → (o : Option ℕ) → first_broken (row_form bytes ++ rules_of i r p (row_of bytes)) ≡ o
        → step lanes s (Rows left r m i x p all) bytes ≡ refused_by i r o (behind_row (left - 1) r m i x p all (row_of bytes) bytes (row_size bytes))
    unfolding machine_step
    row-answered zero some o e = absurd (omega (arith, some))
    row-answered (suc n) some o e =
        ap (λ z. refused_by i r z (behind_row n r m i x p all (row_of bytes) bytes (row_size bytes))) e
        ∙ ap (λ k. refused_by i r o (behind_row k r m i x p all (row_of bytes) bytes (row_size bytes))) (let f : n ≡ suc n - 1 = omega arith in f)

    pub row-formless : (left rule : ℕ) → 0 < left → first_broken (row_form bytes) ≡ Some rule → step lanes s (Rows left r m i x p all) bytes ≡ Err (at i r rule)
    row-formless left rule some e = row-answered left some (Some rule) (front-broke (row_form bytes) (rules_of i r p (row_of bytes)) rule e)

    pub row-false : (left rule : ℕ) (row : Row) → 0 < left → first_broken (row_form bytes) ≡ None → row ≡ row_of bytes → first_broken (rules_of i r p row) ≡ Some rule
        → step lanes s (Rows left r m i x p all) bytes ≡ Err (at i r rule)
    row-false left rule row some form is e =
        row-answered left some (Some rule) (front-held (row_form bytes) (rules_of i r p (row_of bytes)) form ∙ ap (λ (z : Row). first_broken (rules_of i r p z)) (sym is) ∙ e)

    pub row-went : (left k : ℕ) (row : Row) → 0 < left → first_broken (row_form bytes) ≡ None → row ≡ row_of bytes → k ≡ row_size bytes → first_broken (rules_of i r p row) ≡ None
        → step lanes s (Rows left r m i x p all) bytes ≡ Ok (behind_row (left - 1) r m i x p all row bytes k)
    row-went left k row some form is size e =
        row-answered left some None (front-held (row_form bytes) (rules_of i r p (row_of bytes)) form ∙ ap (λ (z : Row). first_broken (rules_of i r p z)) (sym is) ∙ e)
        ∙ ap (λ (z : Row). Ok (behind_row (left - 1) r m i x p all z bytes (row_size bytes))) (sym is) ∙ ap (λ z. Ok (behind_row (left - 1) r m i x p all row bytes z)) (sym size)

    -- as the code has it: by the number of the step, the place behind the row, and the sums with its tuples
    pub row-reached : (left k number : ℕ) (row : Row) (after : Place) (sums : Sums) → 0 < left → first_broken (row_form bytes) ≡ None → row ≡ row_of bytes → k ≡ row_size bytes → number ≡ i * s.header.size + r
        → row_rule s.header.version row number p (last_of s.header number) s.input s.output ≡ None → after ≡ place_after s.header.version row p s.input
        → sums ≡ with_events true lanes x.sums (map (event number) row.accesses)
        → step lanes s (Rows left r m i x p all) bytes ≡ Ok (Some (Rows (left - 1) (r + 1) m i (record { head = x.head; bytes = x.bytes + k; sums = sums }) after all, drop k bytes))
    row-reached left k number row after sums some form is size step_is good place events =
        let rule = ap (λ n. row_rule s.header.version row n p (last_of s.header n) s.input s.output) (sym step_is) ∙ good in
        let long : row_length row ≡ k = ap row_length is ∙ row_length-row_of bytes ∙ sym size in
        let added : with_events true lanes x.sums (map (event (i * s.header.size + r)) row.accesses) ≡ sums = ap (λ n. with_events true lanes x.sums (map (event n) row.accesses)) (sym step_is) ∙ sym events in
        let reached : Place = place_after s.header.version row p s.input in
        row-went left k row some form is size rule
        ∙ ap (λ n. Ok (Some (Rows (left - 1) (r + 1) m i (record { head = x.head; bytes = x.bytes + n; sums = with_events true lanes x.sums (map (event (i * s.header.size + r)) row.accesses) }) reached all, drop k bytes))) long
        ∙ ap (λ (z : Sums). Ok (Some (Rows (left - 1) (r + 1) m i (record { head = x.head; bytes = x.bytes + k; sums = z }) reached all, drop k bytes))) added
        ∙ ap (λ (z : Place). Ok (Some (Rows (left - 1) (r + 1) m i (record { head = x.head; bytes = x.bytes + k; sums = sums }) z all, drop k bytes))) (sym place)

  -- ---- the table

  abbrev behind_entry : ℕ → ℕ → Place → Sums → List ℕ → Option (Phase × List ℕ)
  behind_entry n j p all bytes =
      let e = entry_of bytes in
      Some (Entries n (j + 1) (Some e.cell) p (with_tuples true lanes all (tuple_last e ∷ []) (first_tuple s.elf s.header e ∷ [])), drop 16 bytes)

  module _ (j : ℕ) (before : Option ℕ) (p : Place) (all : Sums) (bytes : List ℕ) where
    abbrev entry_rules : List Check
    entry_rules = entry_checks s.header.version before (entry_of bytes)

    entry-answered : (left : ℕ) → 0 < left → (o : Option ℕ) → first_broken ((1, nat_le 16 (length bytes)) ∷ entry_rules) ≡ o
        → step lanes s (Entries left j before p all) bytes ≡ refused_by s.header.shards j o (behind_entry (left - 1) j p all bytes)
    unfolding machine_step
    entry-answered zero some o e = absurd (omega (arith, some))
    entry-answered (suc n) some o e =
        ap (λ z. refused_by s.header.shards j z (behind_entry n j p all bytes)) e
        ∙ ap (λ k. refused_by s.header.shards j o (behind_entry k j p all bytes)) (let f : n ≡ suc n - 1 = omega arith in f)

    pub entry-short : (left : ℕ) → 0 < left → length bytes < 16 → step lanes s (Entries left j before p all) bytes ≡ Err (at s.header.shards j 1)
    entry-short left some lt = entry-answered left some (Some 1) (short 16 bytes entry_rules lt)

    pub entry-false : (left rule : ℕ) → 0 < left → 16 ≤ length bytes → first_broken entry_rules ≡ Some rule → step lanes s (Entries left j before p all) bytes ≡ Err (at s.header.shards j rule)
    entry-false left rule some le e = entry-answered left some (Some rule) (room 16 bytes entry_rules le ∙ e)

    pub entry-went : (left : ℕ) → 0 < left → 16 ≤ length bytes → first_broken entry_rules ≡ None → step lanes s (Entries left j before p all) bytes ≡ Ok (behind_entry (left - 1) j p all bytes)
    entry-went left some le e = entry-answered left some None (room 16 bytes entry_rules le ∙ e)

    -- the end
    pub end-found : (o : Option ℕ) (nothing : Bool) → nothing ≡ (length bytes == 0) → first_broken (end_checks s.header p all nothing) ≡ o → step lanes s (Entries 0 j before p all) bytes ≡ refused_by s.header.shards j o None
    unfolding machine_step
    end-found o nothing is e =
        ap (λ z. refused_by s.header.shards j (first_broken (end_checks s.header p all z)) None) (sym is) ∙ ap (λ z. refused_by s.header.shards j z None) e
