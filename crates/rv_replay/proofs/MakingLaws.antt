-- A shard in the making, row by row.
use Rattle.std.proofs.Common.{◌≡◌, ℕ, zero, suc, ◌+◌, ◌-◌, ◌*◌, ◌^◌, ◌<◌, ◌≤◌, List, [], ◌∷◌, ◌++◌, None, length, drop, map, refl, sym, ◌∙◌, ap, subst, arith, append-nil, append_assoc}
use Rattle.std.specs.List.{flat_map}
use Rattle.std.proofs.lemmas.List.{map-append, length-append, length-map}
use Rattle.std.proofs.lemmas.List.Concat.{flat_map-append}
use Rattle.std.proofs.lemmas.List.FromFn.{length-map-range_with_len}
use Rattle.rv_base.specs.declared.layout.TheConstants.{ROW_BYTES, ACCESS_BYTES, HEAD_BYTES}
use Rattle.rv_base.specs.declared.cells.TheConstants.{SLOTS}
use Rattle.rv_base.specs.declared.record.Place.{Place}
use Rattle.rv_base.specs.declared.record.Tuple.{Tuple}
use Rattle.rv_spec.specs.Words.{AreBytes}
use Rattle.rv_spec.specs.Elf.{Image}
use Rattle.rv_spec.specs.Step.{State}
use Rattle.rv_spec.specs.Run.{run, next_state}
use Rattle.rv_spec.specs.Digest.{Lanes, digest, set_digest_bytes}
use Rattle.rv_spec.specs.Visits.{Use, visit, step_uses, visits}
use Rattle.rv_spec.specs.Trace.{Row, access, history, row, rows}
use Rattle.rv_spec.specs.Tuples.{Event, event, events, tuple_read, tuple_written}
use Rattle.rv_spec.specs.Record.{row_bytes, row_length, rows_length, head_bytes, shard_bytes, shard_of, place_at}
use Rattle.rv_row.specs.declared.rows.Row.{Row as Filled}
use Rattle.rv_row.specs.RowReading.{row_view}
use Rattle.rv_row.proofs.Lemmas.{length-row_bytes}
use Rattle.rv_isa.specs.declared.hart.Stepped.{Stepped}
use Rattle.rv_rules.specs.Agreement.{IsProgram}
use Rattle.rv_isa.specs.Hart.{TakesStepFrom, TakesTimes}
use Rattle.rv_isa.specs.HartState.{HartState, StandsFor, IsTimed}
use Rattle.rv_isa.specs.Ranges.{Rises}
use Rattle.rv_isa.proofs.Lemmas.{step-slots-rise}
use Rattle.rv_pairs.specs.declared.pairing.Pairing.{Pairing}
use Rattle.rv_pairs.specs.Covers.{Covers}
use Rattle.rv_point.specs.Replays.{IsReplaying, MakesRow}
use Rattle.rv_point.proofs.Lemmas.{rows-more, replays-step}
use Rattle.rv_digest.specs.declared.set_digest.SetDigest.{SetDigest}
use Rattle.rv_replay.specs.Piece.{piece_of}
use Rattle.rv_replay.specs.declared.rows.Making.{Making}
use Rattle.rv_point.specs.declared.start.ShardStart.{ShardStart}
use Rattle.rv_replay.specs.Making.{HasMade, IsStartOf}

-- ---- events of rows one after another

events-append : (k : ℕ) (xs ys : List Row) → events k (xs ++ ys) ≡ events k xs ++ events (k + length xs) ys
events-append k [] ys = (let same : k ≡ k + 0 = omega arith in ap (λ j. events j ys) same)
events-append k (x ∷ xs) ys =
    let same : k + 1 + length xs ≡ k + suc (length xs) = omega arith in
    ap (λ (es : List Event). map (event k) x.accesses ++ es) (events-append (k + 1) xs ys ∙ ap (λ j. events (k + 1) xs ++ events j ys) same)
    ∙ sym (append_assoc (map (event k) x.accesses) (events (k + 1) xs) (events (k + suc (length xs)) ys))

module _ (i : Image) (input : List ℕ) where
  pub length-rows : (k n : ℕ) → length (rows i input k n) ≡ n
  length-rows k n = length-map-range_with_len (row i input) k n

  events-more : (k m : ℕ) → events k (rows i input k (m + 1)) ≡ events k (rows i input k m) ++ map (event (k + m)) (row i input (k + m)).accesses
  events-more k m =
      ap (events k) (rows-more i input k m) ∙ events-append k (rows i input k m) (row i input (k + m) ∷ [])
      ∙ ap (λ x. events k (rows i input k m) ++ events (k + x) (row i input (k + m) ∷ [])) (length-rows k m)
      ∙ ap (λ (es : List Event). events k (rows i input k m) ++ es) (append-nil (map (event (k + m)) (row i input (k + m)).accesses))

  bytes-more : (k m : ℕ) → flat_map row_bytes (rows i input k (m + 1)) ≡ flat_map row_bytes (rows i input k m) ++ row_bytes (row i input (k + m))
  bytes-more k m =
      ap (flat_map row_bytes) (rows-more i input k m) ∙ flat_map-append row_bytes (rows i input k m) (row i input (k + m) ∷ [])
      ∙ ap (λ (bs : List ℕ). flat_map row_bytes (rows i input k m) ++ bs) (append-nil (row_bytes (row i input (k + m))))

  -- ---- before the first row

  pub begun : (lanes : Lanes) (k n : ℕ) (made : Making) (pairing : Pairing) → IsReplaying i input k n 0 made.hart → length made.bytes.items ≡ HEAD_BYTES → Covers lanes pairing [] [] → made.put ≡ 0 → HasMade lanes i input k n 0 made pairing
  begun lanes k n made pairing replaying size covers put =
      let to : k ≡ k + 0 = omega arith in
      record {
        replaying = replaying;
        room = made.bytes.items;
        size = size;
        bytes = sym (append-nil made.bytes.items);
        covers = covers;
        put = (let here : length (run i input k).output ≡ length (run i input (k + 0)).output = ap (λ j. length (run i input j).output) to in omega (arith, put));
        few = omega (arith, put);
      }

  -- ---- one row more

  module _ (lanes : Lanes) (k n m : ℕ) (old new : Making) (paired pairs : Pairing) (filled : Filled) (s : Stepped) (made : HasMade lanes i input k n m old paired) (makes : MakesRow i input k n m filled s new.hart) where
    pub made-more : new.bytes.items ≡ old.bytes.items ++ row_bytes (row_view filled)
        → ((rs ws : List Tuple) → Covers lanes paired rs ws → Covers lanes pairs (rs ++ map tuple_read (map (event (k + m)) filled.accesses.items)) (ws ++ map tuple_written (map (event (k + m)) filled.accesses.items)))
        → new.put ≡ old.put + s.put → HasMade lanes i input k n (m + 1) new pairs
    made-more bytes more put =
        let r : Row = row i input (k + m) in
        let before : List Event = events k (rows i input k m) in
        let read : map tuple_read before ++ map tuple_read (map (event (k + m)) filled.accesses.items) ≡ map tuple_read (events k (rows i input k (m + 1))) =
        ap (λ (x : Row). map tuple_read before ++ map tuple_read (map (event (k + m)) x.accesses)) makes.is ∙ sym (map-append tuple_read before (map (event (k + m)) r.accesses)) ∙ ap (map tuple_read) (sym (events-more k m)) in
        let written : map tuple_written before ++ map tuple_written (map (event (k + m)) filled.accesses.items) ≡ map tuple_written (events k (rows i input k (m + 1))) =
        ap (λ (x : Row). map tuple_written before ++ map tuple_written (map (event (k + m)) x.accesses)) makes.is ∙ sym (map-append tuple_written before (map (event (k + m)) r.accesses)) ∙ ap (map tuple_written) (sym (events-more k m)) in
        let covers : Covers lanes pairs (map tuple_read before ++ map tuple_read (map (event (k + m)) filled.accesses.items)) (map tuple_written before ++ map tuple_written (map (event (k + m)) filled.accesses.items)) =
        more (map tuple_read before) (map tuple_written before) made.covers in
        record {
          replaying = makes.replaying;
          room = made.room;
          size = made.size;
          bytes = bytes ∙ (λ t. made.bytes t ++ row_bytes (makes.is t)) ∙ append_assoc made.room (flat_map row_bytes (rows i input k m)) (row_bytes r) ∙ ap (λ (bs : List ℕ). made.room ++ bs) (sym (bytes-more k m));
          covers = subst (λ (ts : List Tuple). Covers lanes pairs ts (map tuple_written (events k (rows i input k (m + 1))))) read
              (subst (λ (ts : List Tuple). Covers lanes pairs (map tuple_read before ++ map tuple_read (map (event (k + m)) filled.accesses.items)) ts) written covers);
          put = omega (arith, put, made.put, makes.put);
          few = omega (arith, put, made.few, makes.few);
        }

  -- the step of the hart makes the next row
  pub row-made : (lanes : Lanes) (k n m number : ℕ) (old : Making) (paired : Pairing) (new : HartState) (filled : Filled) (s : Stepped) → IsProgram i → AreBytes input → number ≡ k + m → m < n → HasMade lanes i input k n m old paired
      → new.cells.image ≡ old.hart.cells.image → new.input ≡ old.hart.input → ((t : State) → StandsFor old.hart t → TakesStepFrom old.hart.input t s new)
      → ((t : State) (before : List Tuple) → StandsFor old.hart t → IsTimed old.hart before number → TakesTimes old.hart.input t before number filled new) → MakesRow i input k n m filled s new
  row-made lanes k n m number old paired new filled s program bytes is less made image same takes times =
      replays-step i input k n m old.hart new filled s program bytes less made.replaying image same takes
      (λ t before stands timed. subst (λ x. TakesTimes old.hart.input t before x filled new) is (times t before stands (subst (IsTimed old.hart before) (sym is) timed)))

  -- ---- the length of rows

  rises-length : (us : List Use) (lo hi : ℕ) → Rises lo hi us → length us + lo ≤ hi
  rises-length [] lo hi r = omega (arith, r)
  rises-length (u ∷ us) lo hi r = omega (arith, r.0, rises-length us (u.slot + 1) hi r.1)

  row-most : (k : ℕ) → length (row i input k).accesses ≤ SLOTS
  unfolding visits
  row-most k =
      let s : State = run i input k in
      let us : List Use = step_uses input s in
      let size : length (map (access (history i input (suc k)) k) (map (visit s (next_state input s)) us)) ≡ length us = length-map (map (visit s (next_state input s)) us) (access (history i input (suc k)) k) ∙ length-map us (visit s (next_state input s)) in
      omega (arith, size, rises-length us 1 9 (step-slots-rise input s))

  -- a row has its fetch
  pub row-some : (k : ℕ) → 1 ≤ length (row i input k).accesses
  unfolding visits step_uses
  row-some k = omega arith

  pub rows-most : (n k : ℕ) → rows_length (rows i input k n) ≤ (ROW_BYTES + ACCESS_BYTES * SLOTS) * n
  rows-most zero k = omega arith
  rows-most (suc n) k = omega (arith, row-most k, rows-most n (k + 1))

pub length-all : (rs : List Row) → length (flat_map row_bytes rs) ≡ rows_length rs
length-all [] = refl
length-all (r ∷ rs) = length-append (row_bytes r) (flat_map row_bytes rs) ∙ (let first : length (row_bytes r) ≡ row_length r = length-row_bytes r in let rest = length-all rs in omega arith)

-- ---- a shard whose rows are made

drop-front : (xs ys : List ℕ) (n : ℕ) → length xs ≡ n → drop n (xs ++ ys) ≡ ys
drop-front [] ys n e = ap (λ m. drop m ys) (sym e)
drop-front (x ∷ xs) ys n e = ap (λ m. drop m (x ∷ xs ++ ys)) (sym e) ∙ drop-front xs ys (length xs) refl

module _ (lanes : Lanes) (i : Image) (input : List ℕ) (s : ShardStart) (of : IsStartOf i input s) (m : Making) (pairing : Pairing) (made : HasMade lanes i input s.step s.rows s.rows m pairing) where
  abbrev rs : List Row
  rs = rows i input s.step s.rows

  pub bytes-count : length m.bytes.items - HEAD_BYTES ≡ rows_length rs
  bytes-count =
      let all : length m.bytes.items ≡ length made.room + length (flat_map row_bytes rs) = ap length made.bytes ∙ length-append made.room (flat_map row_bytes rs) in
      omega (arith, all, made.size, length-all rs)

  pub bytes-room : HEAD_BYTES ≤ length m.bytes.items
  bytes-room = (let all : length m.bytes.items ≡ length made.room + length (flat_map row_bytes rs) = ap length made.bytes ∙ length-append made.room (flat_map row_bytes rs) in omega (arith, all, made.size))

  pub bytes-fit : length m.bytes.items - HEAD_BYTES < 2 ^ 32
  bytes-fit = omega (arith, bytes-count, rows-most i input s.rows s.step, of.few)

  pub bytes-behind : drop HEAD_BYTES m.bytes.items ≡ flat_map row_bytes rs
  bytes-behind = ap (drop HEAD_BYTES) made.bytes ∙ drop-front made.room (flat_map row_bytes rs) HEAD_BYTES made.size

  pub place-after : (p : Place) → p ≡ record { pc = m.hart.pc; input = m.hart.position; output = s.place.output + m.put } → p ≡ place_at i input (s.step + s.rows)
  place-after p is =
      let r : IsReplaying i input s.step s.rows s.rows m.hart = made.replaying in
      let output : s.place.output + m.put ≡ length (run i input (s.step + s.rows)).output = ap (λ (q : Place). q.output + m.put) of.place_is ∙ made.put in
      is ∙ (λ t. record { pc = (r.stands.pc ∙ r.alike.pc) t; input = (r.stands.position ∙ r.alike.position) t; output = output t })

  -- the piece of the shard
  pub piece-made : (bytes : List ℕ) (reads writes : SetDigest) (place : Place)
      → bytes ≡ head_bytes (record { index = s.index; rows = s.rows; pc = s.place.pc; input = s.place.input; output = s.place.output; bytes = length m.bytes.items - HEAD_BYTES }) ++ drop HEAD_BYTES m.bytes.items ++ set_digest_bytes reads.lanes ++ set_digest_bytes writes.lanes
      → reads.lanes ≡ digest lanes (map tuple_read (events s.step rs)) → writes.lanes ≡ digest lanes (map tuple_written (events s.step rs))
      → place ≡ record { pc = m.hart.pc; input = m.hart.position; output = s.place.output + m.put }
      → record { index = s.index; bytes = bytes; reads = reads; writes = writes; place = place; fault = None } ≡ piece_of lanes i input s.index s.step s.rows
  unfolding shard_bytes
  piece-made bytes reads writes place is read written at =
      let p : Place = place_at i input s.step in
      let spelled : bytes ≡ shard_bytes (shard_of lanes i input s.index s.step s.rows) =
      is ∙ (λ t. head_bytes (record { index = s.index; rows = s.rows; pc = (of.place_is t).pc; input = (of.place_is t).input; output = (of.place_is t).output; bytes = bytes-count t }) ++ bytes-behind t ++ set_digest_bytes (read t) ++ set_digest_bytes (written t)) in
      λ t. record { index = s.index; bytes = spelled t; reads = record { lanes = read t }; writes = record { lanes = written t }; place = place-after place at t; fault = None }

-- ---- the same, of the hart's own program and input

pub own-made : (lanes : Lanes) (i : Image) (input : List ℕ) (k n m : ℕ) (made : Making) (p : Pairing) → made.hart.cells.image ≡ i → made.hart.input ≡ input → HasMade lanes i input k n m made p → HasMade lanes made.hart.cells.image made.hart.input k n m made p
own-made lanes i input k n m made p image same h =
    subst (λ (a : Image). HasMade lanes a made.hart.input k n m made p) (sym image) (subst (λ (b : List ℕ). HasMade lanes i b k n m made p) (sym same) h)

pub own-start : (i : Image) (input : List ℕ) (s : ShardStart) (made : Making) → made.hart.cells.image ≡ i → made.hart.input ≡ input → IsStartOf i input s → IsStartOf made.hart.cells.image made.hart.input s
own-start i input s made image same h = subst (λ (a : Image). IsStartOf a made.hart.input s) (sym image) (subst (λ (b : List ℕ). IsStartOf i b s) (sym same) h)
