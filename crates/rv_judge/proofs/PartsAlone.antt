-- A shard alone and the table alone, where the reading of them stops.
use Rattle.std.proofs.Common.{◌≡◌, ◌∙◌, ℕ, zero, ◌+◌, ◌*◌, ◌≤◌, true, nat_le, bytes_eq, ◌&&◌, ◌==◌, List, [], ◌∷◌, ◌++◌, length, map, drop, Option, Some, None, Result, Ok, Err, refl, sym, ap}
use Rattle.std.proofs.lemmas.List.{append-nil}
use Rattle.rv_base.specs.declared.record.Place.{Place}
use Rattle.rv_base.specs.declared.record.Refusal.{Refusal}
use Rattle.rv_base.specs.declared.record.TableEntry.{TableEntry}
use Rattle.rv_spec.specs.Words.{u32_at}
use Rattle.rv_spec.specs.Trace.{Row}
use Rattle.rv_spec.specs.Tuples.{events, tuple_last, tuple_read, tuple_written}
use Rattle.rv_spec.specs.Record.{Shard, rows_length, shard_rows}
use Rattle.rv_spec.specs.Digest.{Lanes, digest}
use Rattle.rv_rules.specs.Checks.{Check, refused_by, unless_broken, ◌>>=◌}
use Rattle.rv_rules.specs.Reading.{Reading, head_of, digest_of, read_entries, read_rows, read_shard, same_place, when_complete}
use Rattle.rv_file.proofs.Lemmas.{bind-ok, unless-ok}
use Rattle.rv_reading.specs.Stream.{State, onwards, reads}
use Rattle.rv_reading.specs.Machine as machine
use Rattle.rv_reading.specs.Machine.{event_sums, first_tuple, last_cell, no_sums, tuple_sums}
use Rattle.rv_reading.specs.Machine.Phase.{Shards as ShardsOf, Entries as EntriesOf}
use Rattle.rv_reading.specs.Machine.Extent.{ShardsAlone, TableAlone}
use Rattle.rv_reading.proofs.Lemmas.{reads-step, shard-alone-is-read, table-alone-is-read}
use Rattle.rv_judge.specs.declared.phases.Machine.{Machine}
use Rattle.rv_judge.specs.declared.phases.Phase.{Phase}
use Rattle.rv_judge.specs.declared.phases.Phase.TheVariants.{Shards, Rows, Entries}
use Rattle.rv_judge.specs.Subject.{Subject, step_to}
use Rattle.rv_judge.specs.Phases.{entries_in, phase_at, phase_of, stopped, totals_of}
use Rattle.rv_judge.specs.Alone.{can_stand, read_alone, read_table, stated}
use Rattle.rv_judge.proofs.StepFound.{held, room}
use Rattle.rv_judge.proofs.ReadingOn.{is-stream}

-- where a reading stops, as a state
abbrev state_at : Option Refusal → machine.Phase → List ℕ → State machine.Phase
state_at None p left = Ok (p, left)
state_at (Some r) p left = Err r

module _ (lanes : Lanes) (s : Subject) (extent : machine.Extent) (old new : machine.Phase) (bytes left : List ℕ) (o : Option Refusal) (stops : step_to lanes s extent new left ≡ stopped o)
    (goes : (rest : List ℕ) → reads (step_to lanes s extent) new (left ++ rest) ≡ reads (step_to lanes s extent) old (bytes ++ rest)) where
  stops-at : reads (step_to lanes s extent) old bytes ≡ state_at o new left
  stops-at =
      ap (λ (z : List ℕ). reads (step_to lanes s extent) old z) (sym (append-nil bytes))
      ∙ sym (goes [])
      ∙ ap (λ (z : List ℕ). reads (step_to lanes s extent) new z) (append-nil left)
      ∙ reads-step (step_to lanes s extent) (is-stream lanes s extent) new left
      ∙ go o stops
    where
      go : (q : Option Refusal) → step_to lanes s extent new left ≡ stopped q → (step_to lanes s extent new left >>= onwards (reads (step_to lanes s extent)) (new, left)) ≡ state_at q new left
      go None e = ap (λ z. z >>= onwards (reads (step_to lanes s extent)) (new, left)) e
      go (Some r) e = ap (λ z. z >>= onwards (reads (step_to lanes s extent)) (new, left)) e

-- ---- a shard

-- behind shards
pub record BehindShards (lanes : Lanes) (m : Machine) (p : Place) (sums : machine.Sums) : Type 0 where
  pub place : m.place ≡ p
  pub all : totals_of lanes m.all ≡ sums

behind-shards : (lanes : Lanes) (m : Machine) (n i : ℕ) (p : Place) (sums : machine.Sums) → phase_of lanes m ≡ ShardsOf n i p sums → BehindShards lanes m p sums
behind-shards lanes m n i p sums e = go m.phase e
  where
    go : (q : Phase) → phase_at lanes q m.place m.shard m.all ≡ ShardsOf n i p sums → BehindShards lanes m p sums
    go (Shards left next) f = record { place = cc; all = cc }
    go (Rows r) f = absurd cc
    go (Entries left next before) f = absurd cc

bind-err : {A B : Type 0} (r : Result A Refusal) (f : A → B) (e : Refusal) → (r >>= λ x. Ok (f x)) ≡ Err e → r ≡ Err e
bind-err (Ok x) f e is = absurd cc
bind-err (Err d) f e is = let same : d ≡ e = cc in ap (λ (z : Refusal). Err z) same

ok-pair : (a c : machine.Phase) (b d : List ℕ) → state_at None a b ≡ state_at None c d → (a ≡ c) × (b ≡ d)
ok-pair a c b d e =
    let x : machine.Phase × List ℕ = (a, b) in
    let y : machine.Phase × List ℕ = (c, d) in
    let same : x ≡ y = cc in
    (ap (λ (z : machine.Phase × List ℕ). z.0) same, ap (λ (z : machine.Phase × List ℕ). z.1) same)

module _ (lanes : Lanes) (s : Subject) (i : ℕ) (bytes : List ℕ) where
  -- where a run can stand at the stated place, the shard is read from there
  pub alone : 32 ≤ length bytes → can_stand (stated bytes) s.input s.output ≡ true → read_alone lanes s i bytes ≡ read_shard true lanes s.elf s.input s.header s.output i (stated bytes) bytes
  alone le stands =
      let last : List Check = (9, can_stand (stated bytes) s.input s.output) ∷ [] in
      ap (λ o. refused_by i 0 o bytes >>= read_shard true lanes s.elf s.input s.header s.output i (stated bytes)) (room 32 bytes last le ∙ held 9 (can_stand (stated bytes) s.input s.output) [] stands)

  abbrev seen_of : Reading Shard → machine.Phase × List ℕ
  seen_of x = (ShardsOf 0 (i + 1) x.place (event_sums true lanes (events (i * s.header.size) x.part.rows)), x.left)

  module _ (m : Machine) (p : Place) (old : machine.Phase) (left : List ℕ) (o : Option Refusal) (stops : step_to lanes s ShardsAlone (phase_of lanes m) left ≡ stopped o)
      (goes : (rest : List ℕ) → reads (step_to lanes s ShardsAlone) (phase_of lanes m) (left ++ rest) ≡ reads (step_to lanes s ShardsAlone) old (bytes ++ rest)) (begun : old ≡ ShardsOf 1 i p no_sums) where
    shard-stops : (read_shard true lanes s.elf s.input s.header s.output i p bytes >>= λ x. Ok (seen_of x)) ≡ state_at o (phase_of lanes m) left
    shard-stops =
        sym (shard-alone-is-read true lanes s.elf s.input s.header s.output i p bytes)
        ∙ ap (λ (q : machine.Phase). reads (step_to lanes s ShardsAlone) q bytes) (sym begun)
        ∙ stops-at lanes s ShardsAlone old (phase_of lanes m) bytes left o stops goes

    pub shard-refused : (r : Refusal) → o ≡ Some r → read_shard true lanes s.elf s.input s.header s.output i p bytes ≡ Err r
    shard-refused r is = bind-err (read_shard true lanes s.elf s.input s.header s.output i p bytes) seen_of r (shard-stops ∙ ap (λ q. state_at q (phase_of lanes m) left) is)

    pub record ShardRead (x : Reading Shard) : Type 0 where
      pub is : read_shard true lanes s.elf s.input s.header s.output i p bytes ≡ Ok x
      pub behind : BehindShards lanes m x.place (event_sums true lanes (events (i * s.header.size) x.part.rows))
      pub rest : x.left ≡ left

    pub shard-read : o ≡ None → (x : Reading Shard) × ShardRead x
    shard-read is =
        let a = bind-ok (read_shard true lanes s.elf s.input s.header s.output i p bytes) (λ x. Ok (seen_of x)) (phase_of lanes m, left) (shard-stops ∙ ap (λ q. state_at q (phase_of lanes m) left) is) in
        let x = a.0 in
        let parts = ok-pair (seen_of x).0 (phase_of lanes m) x.left left a.2 in
        (x, record { is = a.1; behind = behind-shards lanes m 0 (i + 1) x.place (event_sums true lanes (events (i * s.header.size) x.part.rows)) (sym parts.0); rest = parts.1 })

  -- a shard that is read has the head that its bytes spell
  made : Reading (List Row) → Reading Shard
  made rows = record {
    part = record { head = head_of bytes; rows = rows.part; reads = digest_of rows.left; writes = digest_of (drop 128 rows.left) };
    place = rows.place;
    left = drop 256 rows.left;
  }

  abbrev end_rules : Reading (List Row) → List Check
  end_rules rows =
      let es = events (i * s.header.size) rows.part in
      (20, rows_length rows.part == (head_of bytes).bytes)
      ∷ (1, nat_le 256 (length rows.left))
      ∷ (21, when_complete true lanes s.elf s.input (bytes_eq (digest_of rows.left) (digest lanes (map tuple_read es)) && bytes_eq (digest_of (drop 128 rows.left)) (digest lanes (map tuple_written es))))
      ∷ []

  pub head-read : (p : Place) (x : Reading Shard) → read_shard true lanes s.elf s.input s.header s.output i p bytes ≡ Ok x → x.part.head ≡ head_of bytes
  unfolding read_shard made
  head-read p x e =
      let n = shard_rows s.header.size s.header.steps i in
      let cs : List Check = (1, nat_le 32 (length bytes)) ∷ (9, (head_of bytes).index == i && (head_of bytes).rows == n && when_complete true lanes s.elf s.input (same_place (head_of bytes) p)) ∷ [] in
      let from : List ℕ → Result (Reading (List Row)) Refusal = read_rows true lanes s.elf s.input n s.header s.output i 0 p in
      let end : Reading (List Row) → Result (Reading Shard) Refusal = λ rows. unless_broken i n (end_rules rows) (made rows) in
      let a = bind-ok (unless_broken i 0 cs (drop 32 bytes)) (λ z. from z >>= end) x e in
      let b = bind-ok (from a.0) end x a.2 in
      ap (λ (z : Reading Shard). z.part.head) (sym (unless-ok i n (end_rules b.0) (made b.0) x b.2).1)

-- ---- the table

pub record BehindTable (lanes : Lanes) (m : Machine) (n : ℕ) (sums : machine.Sums) : Type 0 where
  pub entries : entries_in m.phase ≡ n
  pub all : totals_of lanes m.all ≡ sums

behind-table : (lanes : Lanes) (m : Machine) (n : ℕ) (before : Option ℕ) (p : Place) (sums : machine.Sums) → phase_of lanes m ≡ EntriesOf 0 n before p sums → BehindTable lanes m n sums
behind-table lanes m n before p sums e = go m.phase refl e
  where
    go : (q : Phase) → m.phase ≡ q → phase_at lanes q m.place m.shard m.all ≡ EntriesOf 0 n before p sums → BehindTable lanes m n sums
    go (Shards left next) at f = absurd cc
    go (Rows r) at f = absurd cc
    go (Entries left next above) at f = let same : next ≡ n = cc in record { entries = ap entries_in at ∙ same; all = cc }

module _ (lanes : Lanes) (s : Subject) (bytes : List ℕ) where
  abbrev seen_table : Place → List TableEntry × List ℕ → machine.Phase × List ℕ
  seen_table p x = (EntriesOf zero (u32_at bytes 0) (last_cell None x.0) p (tuple_sums true lanes (map tuple_last x.0) (map (first_tuple s.elf s.header) x.0)), x.1)

  joined : {A B C : Type 0} (r : Result A Refusal) (f : A → Result B Refusal) (k : B → C) → (r >>= λ a. f a >>= λ b. Ok (k b)) ≡ (r >>= f >>= λ b. Ok (k b))
  joined (Ok a) f k = refl
  joined (Err e) f k = refl

  module _ (m : Machine) (i : ℕ) (p : Place) (old : machine.Phase) (left : List ℕ) (o : Option Refusal) (stops : step_to lanes s TableAlone (phase_of lanes m) left ≡ stopped o)
      (goes : (rest : List ℕ) → reads (step_to lanes s TableAlone) (phase_of lanes m) (left ++ rest) ≡ reads (step_to lanes s TableAlone) old (bytes ++ rest)) (begun : old ≡ ShardsOf 0 i p no_sums) where
    table-stops : (read_table s.header bytes >>= λ x. Ok (seen_table p x)) ≡ state_at o (phase_of lanes m) left
    table-stops =
        sym (joined (unless_broken s.header.shards 0 ((1, nat_le 4 (length bytes)) ∷ []) (drop 4 bytes)) (read_entries (u32_at bytes 0) s.header 0 None) (seen_table p))
        ∙ sym (table-alone-is-read true lanes s.elf s.input s.header s.output i p bytes)
        ∙ ap (λ (q : machine.Phase). reads (step_to lanes s TableAlone) q bytes) (sym begun)
        ∙ stops-at lanes s TableAlone old (phase_of lanes m) bytes left o stops goes

    pub table-refused : (r : Refusal) → o ≡ Some r → read_table s.header bytes ≡ Err r
    table-refused r is = bind-err (read_table s.header bytes) (seen_table p) r (table-stops ∙ ap (λ q. state_at q (phase_of lanes m) left) is)

    pub record TableRead (x : List TableEntry × List ℕ) : Type 0 where
      pub is : read_table s.header bytes ≡ Ok x
      pub behind : BehindTable lanes m (u32_at bytes 0) (tuple_sums true lanes (map tuple_last x.0) (map (first_tuple s.elf s.header) x.0))
      pub rest : x.1 ≡ left

    pub table-read : o ≡ None → (x : List TableEntry × List ℕ) × TableRead x
    table-read is =
        let a = bind-ok (read_table s.header bytes) (λ x. Ok (seen_table p x)) (phase_of lanes m, left) (table-stops ∙ ap (λ q. state_at q (phase_of lanes m) left) is) in
        let x = a.0 in
        let parts = ok-pair (seen_table p x).0 (phase_of lanes m) x.1 left a.2 in
        (x, record { is = a.1; behind = behind-table lanes m (u32_at bytes 0) (last_cell None x.0) p (tuple_sums true lanes (map tuple_last x.0) (map (first_tuple s.elf s.header) x.0)) (sym parts.0); rest = parts.1 })
