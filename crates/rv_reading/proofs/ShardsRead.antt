-- The machine reads the shards that the definition by whole parts reads.
use Rattle.std.proofs.Common.{◌≡◌, ℕ, zero, suc, ◌+◌, ◌*◌, Bool, List, [], ◌∷◌, ◌++◌, length, map, drop, nat_le, bytes_eq, not, ◌==◌, ◌&&◌, ◌||◌, Option, Some, Result, Ok, refl, sym, ap, ◌∙◌, append_assoc, arith}
use Rattle.std.proofs.lemmas.List.{append-nil}
use Rattle.rv_base.specs.declared.record.Header.{Header}
use Rattle.rv_base.specs.declared.record.Place.{Place}
use Rattle.rv_base.specs.declared.record.Refusal.{Refusal}
use Rattle.rv_base.specs.declared.record.ShardHead.{ShardHead}
use Rattle.rv_spec.specs.Trace.{Row}
use Rattle.rv_spec.specs.Digest.{Lanes, digest}
use Rattle.rv_spec.specs.Tuples.{Event, events, tuple_read, tuple_written}
use Rattle.rv_spec.specs.Record.{Shard, shard_rows, rows_length}
use Rattle.rv_rules.specs.Checks.{Check, unless_broken, ◌>>=◌}
use Rattle.rv_rules.specs.Reading.{Reading, head_of, digest_of, same_place, when_complete, read_rows, read_shard, read_shards}
use Rattle.rv_reading.specs.Stream.{State, onwards}
use Rattle.rv_reading.specs.Machine.{Sums, Inside, Phase, Extent, on_if, with_sums, begin_shard, good_digests, event_sums, shards_events, step}
use Rattle.rv_reading.specs.Machine.Phase.{Shards, Rows}
use Rattle.rv_reading.specs.Machine.Extent.{ShardsAlone}
use Rattle.rv_reading.specs.Parts.{runs, inside, ShardsAreRead, ShardAloneIsRead, ShardsAloneAreRead}
use Rattle.rv_reading.proofs.StepStream.{runs-step}
use Rattle.rv_reading.proofs.Binding.{bind-assoc, bind-same, checks-bind}
use Rattle.rv_reading.proofs.RunningSums.{with_sums-sums, no_sums-sums, stated-alike}
use Rattle.rv_reading.proofs.RowsRead.{behind_rows, rows-read}

-- the checks at the end of a shard's rows, which have this size and these events
abbrev pub digest_checks : Bool → Lanes → ℕ → ShardHead → List Event → List ℕ → List Check
digest_checks complete lanes size head fs bytes =
    (20, size == head.bytes)
    ∷ (1, nat_le 256 (length bytes))
    ∷ (21, not complete || (bytes_eq (digest_of bytes) (digest lanes (map tuple_read fs)) && bytes_eq (digest_of (drop 128 bytes)) (digest lanes (map tuple_written fs))))
    ∷ []

abbrev pub shard_read : ShardHead → Reading (List Row) → Reading Shard
shard_read head x = record { part = record { head = head; rows = x.part; reads = digest_of x.left; writes = digest_of (drop 128 x.left) }; place = x.place; left = drop 256 x.left }

module _ (complete : Bool) (lanes : Lanes) (elf input : List ℕ) (h : Header) (output : List ℕ) (extent : Extent) where
  abbrev run : Phase → List ℕ → State Phase
  run p bytes = runs complete lanes elf input h output extent p bytes

  abbrev sums : List Event → Sums
  sums es = event_sums complete lanes es

  head-step : (n i : ℕ) (p : Place) (all : Sums) (bytes : List ℕ)
      → run (Shards (suc n) i p all) bytes
      ≡ (on_if i 0 ((1, nat_le 32 (length bytes)) ∷ (9, (head_of bytes).index == i && (head_of bytes).rows == shard_rows h.size h.steps i && when_complete complete lanes elf input (same_place (head_of bytes) p)) ∷ [])
      (Rows (shard_rows h.size h.steps i) 0 n i (begin_shard (head_of bytes)) p all) (drop 32 bytes)
      >>= onwards run (Shards (suc n) i p all, bytes))
  unfolding step
  head-step n i p all bytes = runs-step complete lanes elf input h output extent (Shards (suc n) i p all) bytes

  digests-step : (r m i : ℕ) (s : Inside) (p : Place) (all : Sums) (bytes : List ℕ)
      → run (Rows zero r m i s p all) bytes
      ≡ (on_if i r ((20, s.bytes == s.head.bytes) ∷ (1, nat_le 256 (length bytes)) ∷ (21, good_digests complete lanes elf input h output bytes s.sums) ∷ [])
      (Shards m (i + 1) p (with_sums complete lanes all s.sums)) (drop 256 bytes)
      >>= onwards run (Rows zero r m i s p all, bytes))
  unfolding step
  digests-step r m i s p all bytes = runs-step complete lanes elf input h output extent (Rows zero r m i s p all) bytes

  digests-read : {A : Type 0} (r m i : ℕ) (head : ShardHead) (size : ℕ) (es fs : List Event) (p : Place) (bytes : List ℕ) (a : A) (f : A → State Phase)
      → f a ≡ run (Shards m (i + 1) p (sums (es ++ fs))) (drop 256 bytes)
      → run (Rows zero r m i (inside complete lanes elf input h output head size fs) p (sums es)) bytes ≡ (unless_broken i r (digest_checks complete lanes size head fs bytes) a >>= f)
  digests-read r m i head size es fs p bytes a f is =
      let alike = stated-alike complete (digest_of bytes) (digest_of (drop 128 bytes)) (digest lanes (map tuple_read fs)) (digest lanes (map tuple_written fs)) in
      let with : Bool → List Check = λ z. (20, size == head.bytes) ∷ (1, nat_le 256 (length bytes)) ∷ (21, z) ∷ [] in
      let here : Phase × List ℕ = (Rows zero r m i (inside complete lanes elf input h output head size fs) p (sums es), bytes) in
      let next : Option (Phase × List ℕ) = Some (Shards m (i + 1) p (with_sums complete lanes (sums es) (sums fs)), drop 256 bytes) in
      digests-step r m i (inside complete lanes elf input h output head size fs) p (sums es) bytes
      ∙ ap (λ z. unless_broken i r (with z) next >>= onwards run here) alike
      ∙ checks-bind i r (digest_checks complete lanes size head fs bytes) next a (onwards run here) f (ap (λ z. run (Shards m (i + 1) p z) (drop 256 bytes)) (with_sums-sums complete lanes es fs) ∙ sym is)

  abbrev behind_shard : ℕ → ℕ → List Event → Reading Shard → State Phase
  behind_shard n i es x = run (Shards n (i + 1) x.place (sums (es ++ events (i * h.size) x.part.rows))) x.left

  shard-is-read : (n i : ℕ) (es : List Event) (p : Place) (bytes : List ℕ) → run (Shards (suc n) i p (sums es)) bytes ≡ (read_shard complete lanes elf input h output i p bytes >>= behind_shard n i es)
  unfolding read_shard
  shard-is-read n i es p bytes =
      let head = head_of bytes in
      let rows = shard_rows h.size h.steps i in
      let cs : List Check = (1, nat_le 32 (length bytes)) ∷ (9, head.index == i && head.rows == rows && when_complete complete lanes elf input (same_place head p)) ∷ [] in
      let rest = drop 32 bytes in
      let rows_from : List ℕ → Result (Reading (List Row)) Refusal = λ z. read_rows complete lanes elf input rows h output i 0 p z in
      let closed : Reading (List Row) → Result (Reading Shard) Refusal = λ x. unless_broken i rows (digest_checks complete lanes (rows_length x.part) head (events (i * h.size) x.part) x.left) (shard_read head x) in
      let whole : List ℕ → Result (Reading Shard) Refusal = λ z. rows_from z >>= closed in
      let next : Reading Shard → State Phase = behind_shard n i es in
      let begin : begin_shard head ≡ inside complete lanes elf input h output head 0 [] = λ t. record { head = head; bytes = 0; sums = no_sums-sums complete lanes t } in
      let rows_behind : Reading (List Row) → State Phase = behind_rows complete lanes elf input h output extent (i * h.size + 0) rows n i head 0 [] (sums es) in
      let later : (x : Reading (List Row)) → rows_from rest ≡ Ok x → rows_behind x ≡ (closed x >>= next) = λ x ok.
      let size : 0 + rows_length x.part ≡ rows_length x.part = omega arith in
      let at : i * h.size + 0 ≡ i * h.size = omega arith in
      (λ t. run (Rows zero rows n i (inside complete lanes elf input h output head (size t) (events (at t) x.part)) x.place (sums es)) x.left)
      ∙ digests-read rows n i head (rows_length x.part) es (events (i * h.size) x.part) x.place x.left (shard_read head x) next refl in
      let inner : run (Rows rows 0 n i (begin_shard head) p (sums es)) rest ≡ (whole rest >>= next) =
      ap (λ z. run (Rows rows 0 n i z p (sums es)) rest) begin
      ∙ rows-read complete lanes elf input h output extent rows 0 n i rows head 0 [] p (sums es) rest (omega arith)
      ∙ bind-same (rows_from rest) rows_behind (λ x. closed x >>= next) later
      ∙ sym (bind-assoc (rows_from rest) closed next) in
      head-step n i p (sums es) bytes
      ∙ checks-bind i 0 cs (Some (Rows rows 0 n i (begin_shard head) p (sums es), rest)) rest (onwards run (Shards (suc n) i p (sums es), bytes)) (λ z. whole z >>= next) inner
      ∙ sym (bind-assoc (unless_broken i 0 cs rest) whole next)

  abbrev pub behind_shards : ℕ → ℕ → List Event → Reading (List Shard) → State Phase
  behind_shards last i es x = run (Shards zero last x.place (sums (es ++ shards_events h i x.part))) x.left

  abbrev put_shard : Reading Shard → Reading (List Shard) → Reading (List Shard)
  put_shard first others = record { part = first.part ∷ others.part; place = others.place; left = others.left }

  pub shards-read : (n i last : ℕ) (es : List Event) (p : Place) (bytes : List ℕ) → i + n ≡ last
      → run (Shards n i p (sums es)) bytes ≡ (read_shards complete lanes elf input n h output i p bytes >>= behind_shards last i es)
  unfolding read_shards
  shards-read zero i last es p bytes sum =
      let at : i ≡ last = omega (arith, sum) in
      λ t. run (Shards zero (at t) p (sums (sym (append-nil es) t))) bytes
  shards-read (suc n) i last es p bytes sum =
      let first = read_shard complete lanes elf input h output i p bytes in
      let others_from : Reading Shard → Result (Reading (List Shard)) Refusal = λ x. read_shards complete lanes elf input n h output (i + 1) x.place x.left in
      let whole : Reading Shard → Result (Reading (List Shard)) Refusal = λ x. others_from x >>= λ y. Ok (put_shard x y) in
      let next : Reading (List Shard) → State Phase = behind_shards last i es in
      let later : (x : Reading Shard) → first ≡ Ok x → behind_shard n i es x ≡ (whole x >>= next) = λ x ok.
      let ev = events (i * h.size) x.part.rows in
      shards-read n (i + 1) last (es ++ ev) x.place x.left (omega (arith, sum))
      ∙ bind-same (others_from x) (behind_shards last (i + 1) (es ++ ev)) (λ y. next (put_shard x y)) (λ y _. ap (λ z. run (Shards zero last y.place (sums z)) y.left) (append_assoc es ev (shards_events h (i + 1) y.part)))
      ∙ sym (bind-assoc (others_from x) (λ y. Ok (put_shard x y)) next) in
      shard-is-read n i es p bytes
      ∙ bind-same first (behind_shard n i es) (λ x. whole x >>= next) later
      ∙ sym (bind-assoc first whole next)

module _ (complete : Bool) (lanes : Lanes) (elf input : List ℕ) (h : Header) (output : List ℕ) where
  -- The law of shards.
  pub shards-are-read : ShardsAreRead complete lanes elf input h output
  shards-are-read extent n i es p bytes = shards-read complete lanes elf input h output extent n i (i + n) es p bytes refl

  -- shards alone end where they end
  ends-alone : (i : ℕ) (p : Place) (all : Sums) (bytes : List ℕ) → runs complete lanes elf input h output ShardsAlone (Shards zero i p all) bytes ≡ Ok (Shards zero i p all, bytes)
  ends-alone i p all bytes = runs-step complete lanes elf input h output ShardsAlone (Shards zero i p all) bytes

  -- The law of one shard alone.
  pub shard-alone-is-read : ShardAloneIsRead complete lanes elf input h output
  shard-alone-is-read i p bytes =
      let shard = read_shard complete lanes elf input h output i p bytes in
      ap (λ z. runs complete lanes elf input h output ShardsAlone (Shards 1 i p z) bytes) (no_sums-sums complete lanes)
      ∙ shard-is-read complete lanes elf input h output ShardsAlone 0 i [] p bytes
      ∙ bind-same shard (behind_shard complete lanes elf input h output ShardsAlone 0 i []) (λ x. Ok (Shards 0 (i + 1) x.place (event_sums complete lanes (events (i * h.size) x.part.rows)), x.left))
      (λ x _. ends-alone (i + 1) x.place (event_sums complete lanes (events (i * h.size) x.part.rows)) x.left)

  -- The law of shards alone.
  pub shards-alone-are-read : ShardsAloneAreRead complete lanes elf input h output
  shards-alone-are-read n i p bytes =
      let shards = read_shards complete lanes elf input n h output i p bytes in
      ap (λ z. runs complete lanes elf input h output ShardsAlone (Shards n i p z) bytes) (no_sums-sums complete lanes)
      ∙ shards-are-read ShardsAlone n i [] p bytes
      ∙ bind-same shards (behind_shards complete lanes elf input h output ShardsAlone (i + n) i []) (λ x. Ok (Shards zero (i + n) x.place (event_sums complete lanes (shards_events h i x.part)), x.left))
      (λ x _. ends-alone (i + n) x.place (event_sums complete lanes (shards_events h i x.part)) x.left)
