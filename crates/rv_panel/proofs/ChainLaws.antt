-- One shard more of the chain.
use Rattle.std.proofs.Common.{◌≡◌, ℕ, zero, suc, ◌+◌, ◌-◌, ◌<◌, ◌≤◌, ◌%◌, true, ◌&&◌, ◌==◌, List, [], ◌∷◌, ◌++◌, length, drop, map, Some, None, Result, Ok, Err, sym, ap, subst, ◌∙◌, inl, inr, arith}
use Rattle.std.specs.Prelude.{nat_le}
use Rattle.std.proofs.lemmas.Bool.{le-leb, eq-eqb, and_from}
use Rattle.std.proofs.lemmas.List.{map-append}
use Rattle.rv_base.specs.declared.record.Place.{Place}
use Rattle.rv_base.specs.declared.record.Refusal.{Refusal}
use Rattle.rv_base.specs.declared.record.Tuple.{Tuple}
use Rattle.rv_base.specs.declared.record.Verdict.{Verdict}
use Rattle.rv_base.specs.declared.record.Verdict.TheVariants.{Refuse}
use Rattle.rv_spec.specs.Digest.{Lanes, digest}
use Rattle.rv_spec.specs.Record.{Shard}
use Rattle.rv_spec.specs.Tuples.{Event, tuple_read, tuple_written}
use Rattle.rv_rules.specs.Checks.{unless_broken, ◌>>=◌}
use Rattle.rv_rules.specs.Reading.{Reading, head_of, same_place}
use Rattle.rv_file.specs.Parsing.{shard_size, behind_shards}
use Rattle.rv_rowcheck.specs.RowChecking.{IsPlace}
use Rattle.rv_book.specs.declared.task.Piece.{Piece}
use Rattle.rv_book.specs.Journal.{BookState, piece_at}
use Rattle.rv_judge.specs.Subject.{Subject}
use Rattle.rv_judge.specs.Alone.{can_stand, read_alone, stated}
use Rattle.rv_panel.specs.Pieces.{piece_of}
use Rattle.rv_panel.specs.Chaining.{AreChecked, AreDigests, IsLinked, verdict_from}
use Rattle.rv_panel.proofs.ShardParts.{shard_read, is-shard-read}
use Rattle.rv_panel.proofs.ShardSteps.{place-stated, no-head, displaced, refuses, goes-on, shard_events}
use Rattle.rv_panel.proofs.StartLaws.{behind-more}

module _ (lanes : Lanes) (s : Subject) where
  abbrev read_at : ℕ → Place → List ℕ → Result (Reading Shard) Refusal
  read_at i p bytes = shard_read lanes s.elf s.input s.header s.output i p bytes

  stands-at : (p : Place) → IsPlace p s.input s.output → can_stand p s.input s.output ≡ true
  stands-at p is =
      and_from (p.pc % 4 == 0 && nat_le p.input (length s.input)) (nat_le p.output (length s.output))
      (and_from (p.pc % 4 == 0) (nat_le p.input (length s.input)) (eq-eqb (p.pc % 4) 0 is.aligned) (le-leb p.input (length s.input) is.taken))
      (le-leb p.output (length s.output) is.put)

  -- a shard that states the place before it is read alone as it is read there
  alone-is : (i : ℕ) (p : Place) (bytes : List ℕ) → 32 ≤ length bytes → same_place (head_of bytes) p ≡ true → IsPlace p s.input s.output → read_alone lanes s i bytes ≡ read_at i p bytes
  alone-is i p bytes le same is =
      let there : stated bytes ≡ p = place-stated (head_of bytes) p same in
      let stands : can_stand (stated bytes) s.input s.output ≡ true = ap (λ q. can_stand q s.input s.output) there ∙ stands-at p is in
      ap (λ b. unless_broken i 0 ((1, b) ∷ (9, can_stand (stated bytes) s.input s.output) ∷ []) bytes >>= read_at i (stated bytes)) (le-leb 32 (length bytes) le)
      ∙ ap (λ b. unless_broken i 0 ((9, b) ∷ []) bytes >>= read_at i (stated bytes)) stands
      ∙ ap (λ q. read_at i q bytes) there

  -- ---- what follows from a piece

  -- The verdict goes on behind a shard.
  pub record Goes (i : ℕ) (p : Place) (rest : List ℕ) (piece : Piece) : Type 0 where
    pub events : List Event
    pub stands : IsPlace piece.place s.input s.output
    pub digests : AreDigests lanes events piece.reads.lanes piece.writes.lanes
    pub verdict : (n : ℕ) (es : List Event) → verdict_from lanes s (suc n) i p es rest ≡ verdict_from lanes s n (i + 1) piece.place (es ++ events) (drop (shard_size rest) rest)

  goes-by : (i : ℕ) (p : Place) (rest : List ℕ) (piece : Piece) (q : Result (Reading Shard) Refusal) → IsPlace p s.input s.output → read_at i p rest ≡ q → piece ≡ piece_of i q → piece.fault ≡ None → Goes i p rest piece
  goes-by i p rest piece (Ok x) is read one good =
      let x_is = is-shard-read lanes s.elf s.input s.header s.output i p rest x read in
      let place : x.place ≡ piece.place = sym (ap (λ (q : Piece). q.place) one) in
      record {
        events = shard_events lanes s.elf s.input s.header s.output i x;
        stands = subst (λ q. IsPlace q s.input s.output) place (x_is.stands is);
        digests = record { reads_are = ap (λ (q : Piece). q.reads.lanes) one ∙ x_is.reads; writes_are = ap (λ (q : Piece). q.writes.lanes) one ∙ x_is.writes };
        verdict = λ n es.
            goes-on lanes s.elf s.input s.header s.output n i es p rest x read
            ∙ ap (λ q. verdict_from lanes s n (i + 1) q (es ++ shard_events lanes s.elf s.input s.header s.output i x) x.left) place
            ∙ ap (λ (xs : List ℕ). verdict_from lanes s n (i + 1) piece.place (es ++ shard_events lanes s.elf s.input s.header s.output i x) xs) x_is.left_is;
      }
  goes-by i p rest piece (Err r) is read one good = let bad : piece.fault ≡ Some r = ap (λ (q : Piece). q.fault) one in absurd cc

  refused-by-piece : (i : ℕ) (p : Place) (rest : List ℕ) (piece : Piece) (r : Refusal) (q : Result (Reading Shard) Refusal) → read_at i p rest ≡ q → piece ≡ piece_of i q → piece.fault ≡ Some r → read_at i p rest ≡ Err r
  refused-by-piece i p rest piece r (Ok x) read one bad = let good : piece.fault ≡ None = ap (λ (q : Piece). q.fault) one in absurd cc
  refused-by-piece i p rest piece r (Err f) read one bad = let fault : piece.fault ≡ Some f = ap (λ (q : Piece). q.fault) one in let same : f ≡ r = cc in read ∙ ap (λ e. Err e) same

  -- A head is linked to the place before it, and this piece is its shard's.
  pub record IsPieceAt (i : ℕ) (p : Place) (rest : List ℕ) (piece : Piece) : Type 0 where
    pub long : 32 ≤ length rest
    pub same : same_place (head_of rest) p ≡ true
    pub stands : IsPlace p s.input s.output
    pub piece_is : piece ≡ piece_of i (read_alone lanes s i rest)

  pub goes : (i : ℕ) (p : Place) (rest : List ℕ) (piece : Piece) → IsPieceAt i p rest piece → piece.fault ≡ None → Goes i p rest piece
  goes i p rest piece k good =
      goes-by i p rest piece (read_alone lanes s i rest) k.stands (sym (alone-is i p rest k.long k.same k.stands)) k.piece_is good

  pub piece-refuses : (i : ℕ) (p : Place) (rest : List ℕ) (piece : Piece) (r : Refusal) → IsPieceAt i p rest piece → piece.fault ≡ Some r → (n : ℕ) (es : List Event) → verdict_from lanes s (suc n) i p es rest ≡ Refuse r
  piece-refuses i p rest piece r k bad n es =
      refuses lanes s.elf s.input s.header s.output n i es p rest r
      (refused-by-piece i p rest piece r (read_alone lanes s i rest) (sym (alone-is i p rest k.long k.same k.stands)) k.piece_is bad)

  pub link-refuses : (i : ℕ) (p : Place) (rest : List ℕ) (r : Refusal) → IsLinked i p rest (Err r) → (n : ℕ) (es : List Event) → verdict_from lanes s (suc n) i p es rest ≡ Refuse r
  link-refuses i p rest r (inl short) n es =
      refuses lanes s.elf s.input s.header s.output n i es p rest _ (no-head lanes s.elf s.input s.header s.output i p rest short.0) ∙ ap (λ e. Refuse e) (sym short.1)
  link-refuses i p rest r (inr other) n es =
      refuses lanes s.elf s.input s.header s.output n i es p rest _ (displaced lanes s.elf s.input s.header s.output i p rest other.0 other.1) ∙ ap (λ e. Refuse e) (sym other.2)

  -- ---- counting down

  -- as many shards are left as go on
  pub counted : (whole : Verdict) (total i : ℕ) (p : Place) (es : List Event) (rest : List ℕ) → i < total → whole ≡ verdict_from lanes s (total - i) i p es rest → whole ≡ verdict_from lanes s (suc (total - (i + 1))) i p es rest
  counted whole total i p es rest lt is =
      let one-less : total - i ≡ suc (total - (i + 1)) = omega arith in
      is ∙ ap (λ n. verdict_from lanes s n i p es rest) one-less

  pub counted-all : (whole : Verdict) (total i : ℕ) (p : Place) (es : List Event) (rest : List ℕ) → total ≤ i → i ≤ total → whole ≡ verdict_from lanes s (total - i) i p es rest → whole ≡ verdict_from lanes s 0 total p es rest
  counted-all whole total i p es rest le ge is =
      let none : total - i ≡ 0 = omega arith in
      let end : i ≡ total = omega arith in
      is ∙ ap (λ n. verdict_from lanes s n i p es rest) none ∙ ap (λ k. verdict_from lanes s 0 k p es rest) end

  -- the piece of a shard whose head is there is in the book
  pub in-book : (shards rest : List ℕ) (i : ℕ) (book : BookState) (c : AreChecked lanes s shards book) → i < c.found → rest ≡ behind_shards i shards → piece_at book i ≡ Some (piece_of i (read_alone lanes s i rest))
  in-book shards rest i book c lt at = c.whole.each i lt ∙ ap (λ (xs : List ℕ). Some (piece_of i (read_alone lanes s i xs))) (sym at)

-- ---- where the next shard begins, and the digests with it

pub next-rest : (shards rest new : List ℕ) (i n : ℕ) → new ≡ drop n rest → n ≡ shard_size rest → rest ≡ behind_shards i shards → (new ≡ drop (shard_size rest) rest) × (new ≡ behind_shards (i + 1) shards)
next-rest shards rest new i n is size at =
    let here = is ∙ ap (λ k. drop k rest) size in
    (here, here ∙ ap (λ (xs : List ℕ). drop (shard_size xs) xs) at ∙ sym (behind-more i shards))

pub digests-more : (lanes : Lanes) (es fs : List Event) (new_reads new_writes : List ℕ) → new_reads ≡ digest lanes (map tuple_read es ++ map tuple_read fs) → new_writes ≡ digest lanes (map tuple_written es ++ map tuple_written fs) → AreDigests lanes (es ++ fs) new_reads new_writes
digests-more lanes es fs new_reads new_writes reads writes = record {
  reads_are = reads ∙ ap (λ (ts : List Tuple). digest lanes ts) (sym (map-append tuple_read es fs));
  writes_are = writes ∙ ap (λ (ts : List Tuple). digest lanes ts) (sym (map-append tuple_written es fs));
}

-- ---- a shard whose head is there is found

below-by : (shards : List ℕ) (i found total d : ℕ) → found ≡ i + d → i < total → 32 ≤ length (behind_shards i shards) → (found < total → length (behind_shards found shards) < 32) → i < found
below-by shards i found total zero e lt there next =
    let same : found ≡ i = omega (arith, e) in
    let short : length (behind_shards found shards) < 32 = next (omega (arith, same, lt)) in
    let long : 32 ≤ length (behind_shards found shards) = subst (λ k. 32 ≤ length (behind_shards k shards)) (sym same) there in
    absurd (omega (arith, short, long))
below-by shards i found total (suc d) e lt there next = omega (arith, e)

pub is-found : (shards : List ℕ) (i found total : ℕ) → i ≤ found → i < total → 32 ≤ length (behind_shards i shards) → (found < total → length (behind_shards found shards) < 32) → i < found
is-found shards i found total le lt there next = below-by shards i found total (found - i) (omega (arith, le)) lt there next
