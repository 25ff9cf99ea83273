-- Shards that the code saw, by the definitions.
use Rattle.std.proofs.Common.{◌≡◌, ℕ, suc, ◌+◌, ◌-◌, ◌≤◌, true, List, [], ◌++◌, length, drop, map, Result, Ok, Err, sym, ap, subst, ◌∙◌, arith}
use Rattle.rv_base.specs.declared.record.Place.{Place}
use Rattle.rv_base.specs.declared.record.Refusal.{Refusal}
use Rattle.rv_base.specs.declared.record.Tuple.{Tuple}
use Rattle.rv_spec.specs.Digest.{Lanes, digest}
use Rattle.rv_spec.specs.Record.{Shard}
use Rattle.rv_spec.specs.Tuples.{Event, tuple_read, tuple_written}
use Rattle.std.proofs.lemmas.List.{map-append}
use Rattle.rv_rules.specs.Reading.{Reading, head_of, same_place}
use Rattle.rv_rules.specs.Checks.{◌>>=◌}
use Rattle.rv_rowcheck.specs.RowChecking.{IsPlace}
use Rattle.rv_judge.specs.declared.alone.ShardSeen.{ShardSeen}
use Rattle.rv_judge.specs.Subject.{Subject}
use Rattle.rv_judge.specs.Alone.{SeesShard, read_alone}
use Rattle.rv_parts.specs.declared.shards.ShardsSeen.{ShardsSeen}
use Rattle.rv_parts.specs.Alone.{SeesShardAt, SeesShards, shards_alone}
use Rattle.rv_parts.proofs.ShardsFollow.{After, after_all, alone-is, first-alone, follow, goes-on, goes-on-alone, none-follow, read_at, read-there, refuses, shard_events, stands-behind, was-read, was-refused}

module _ (lanes : Lanes) (s : Subject) where
  sees-by : (i : ℕ) (p : Place) (bytes : List ℕ) (o : Result ShardSeen Refusal) → read_alone lanes s i bytes ≡ read_at lanes s i p bytes → SeesShard lanes s i bytes o → SeesShardAt lanes s i p bytes o
  sees-by i p bytes (Ok seen) same sees = (sees.0, sym same ∙ sees.1, sees.2)
  sees-by i p bytes (Err r) same sees = sym same ∙ sees

  -- a shard that states the place before it was seen at this place
  pub sees-at : (i : ℕ) (p : Place) (bytes : List ℕ) (o : Result ShardSeen Refusal) → 32 ≤ length bytes → same_place (head_of bytes) p ≡ true → IsPlace p s.input s.output → SeesShard lanes s i bytes o → SeesShardAt lanes s i p bytes o
  sees-at i p bytes o le same is sees = sees-by i p bytes o (alone-is lanes s i p bytes le same is) sees

  -- What is known between two shards of a part: where the run stands, the digests so far, and that the reading goes on from here.
  pub record IsBetween (n i m j : ℕ) (body : List ℕ) (place : Place) (es : List Event) (reads writes rest : List ℕ) : Type 0 where
    pub stands : IsPlace place s.input s.output
    pub read : reads ≡ digest lanes (map tuple_read es)
    pub written : writes ≡ digest lanes (map tuple_written es)
    pub on : after_all lanes s i [] (shards_alone lanes s n i body) ≡ follow lanes s m j place es rest

  -- behind the first shard
  pub begun : (n i : ℕ) (body rest : List ℕ) (seen : ShardSeen) → 1 ≤ n → SeesShard lanes s i body (Ok seen) → rest ≡ drop seen.used body
      → (es : List Event) × IsBetween n i (n - 1) (i + 1) body seen.after es seen.reads.lanes seen.writes.lanes rest
  begun n i body rest seen some sees is =
      let x = sees.0 in
      let k = sees.2 in
      let at = read-there lanes s i body x sees.1 in
      let es = shard_events lanes s i x in
      let count : n ≡ suc (n - 1) = omega (arith, some) in (
        es,
        record {
          stands = subst (λ q. IsPlace q s.input s.output) (sym k.after) (stands-behind lanes s i _ body x at.0 at.1);
          read = k.reads;
          written = k.writes;
          on =
              ap (λ m. after_all lanes s i [] (shards_alone lanes s m i body)) count
              ∙ goes-on-alone lanes s (n - 1) i body x sees.1
              ∙ (λ t. follow lanes s (n - 1) (i + 1) (sym k.after t) es ((k.left ∙ sym is) t));
        },
      )

  -- behind a shard more
  pub gone : (n i m j : ℕ) (body : List ℕ) (place : Place) (es : List Event) (reads writes rest : List ℕ) (seen : ShardSeen) (new_reads new_writes new : List ℕ)
      → IsBetween n i (suc m) j body place es reads writes rest → SeesShardAt lanes s j place rest (Ok seen)
      → ((ts : List Tuple) → seen.reads.lanes ≡ digest lanes ts → new_reads ≡ digest lanes (map tuple_read es ++ ts))
      → ((ts : List Tuple) → seen.writes.lanes ≡ digest lanes ts → new_writes ≡ digest lanes (map tuple_written es ++ ts))
      → new ≡ drop seen.used rest
      → (fs : List Event) × IsBetween n i m (j + 1) body seen.after fs new_reads new_writes new
  gone n i m j body place es reads writes rest seen new_reads new_writes new before sees read written is =
      let x = sees.0 in
      let k = sees.2 in
      let fs = shard_events lanes s j x in (
        es ++ fs,
        record {
          stands = subst (λ q. IsPlace q s.input s.output) (sym k.after) (stands-behind lanes s j place rest x before.stands sees.1);
          read = read (map tuple_read fs) k.reads ∙ ap (λ (ts : List Tuple). digest lanes ts) (sym (map-append tuple_read es fs));
          written = written (map tuple_written fs) k.writes ∙ ap (λ (ts : List Tuple). digest lanes ts) (sym (map-append tuple_written es fs));
          on = before.on ∙ goes-on lanes s m j place es rest x sees.1 ∙ (λ t. follow lanes s m (j + 1) (sym k.after t) (es ++ fs) ((k.left ∙ sym is) t));
        },
      )

  -- the first shard is refused
  pub refused-first : (n i : ℕ) (body : List ℕ) (r : Refusal) → 1 ≤ n → read_alone lanes s i body ≡ Err r → shards_alone lanes s n i body ≡ Err r
  refused-first n i body r some e =
      let count : n ≡ suc (n - 1) = omega (arith, some) in
      was-refused lanes s i [] r (shards_alone lanes s n i body)
      (ap (λ m. after_all lanes s i [] (shards_alone lanes s m i body)) count
      ∙ first-alone lanes s (n - 1) i body
      ∙ ap (λ (o : Result (Reading Shard) Refusal). o >>= λ x. follow lanes s (n - 1) (i + 1) x.place (shard_events lanes s i x) x.left) e)

  -- a later shard is refused
  pub refused-later : (n i m j : ℕ) (body : List ℕ) (place : Place) (es : List Event) (reads writes rest : List ℕ) (r : Refusal) → IsBetween n i (suc m) j body place es reads writes rest
      → read_at lanes s j place rest ≡ Err r → shards_alone lanes s n i body ≡ Err r
  refused-later n i m j body place es reads writes rest r before e = was-refused lanes s i [] r (shards_alone lanes s n i body) (before.on ∙ refuses lanes s m j place es rest r e)

  -- behind all shards
  pub ended : (n i j : ℕ) (body : List ℕ) (es : List Event) (seen : ShardsSeen) → IsBetween n i 0 j body seen.after es seen.reads.lanes seen.writes.lanes seen.rest.now → SeesShards lanes s n i body (Ok seen)
  ended n i j body es seen k =
      let read = was-read lanes s i [] _ (shards_alone lanes s n i body) (k.on ∙ none-follow lanes s j seen.after es seen.rest.now) in
      let is = read.2 in
      let events = ap (λ (a : After). a.events) is in (
        read.0,
        read.1,
        record {
          after = sym (ap (λ (a : After). a.place) is);
          reads = k.read ∙ ap (λ (fs : List Event). digest lanes (map tuple_read fs)) (sym events);
          writes = k.written ∙ ap (λ (fs : List Event). digest lanes (map tuple_written fs)) (sym events);
          rest = sym (ap (λ (a : After). a.left) is);
        },
      )
