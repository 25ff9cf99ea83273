-- What is known of a part that was judged alone (this project's own).
use Rattle.std.specs.Prelude.{◌≡◌, ℕ, ◌+◌, Bool, true, false, not, ◌&&◌, ◌==◌, List, ◌++◌, length, map, Option, Some, None, Result, Ok, Err, MatchResult, nat_le, if◌then◌else◌}
use Rattle.rv_base.specs.declared.layout.TheConstants.{HEAD_BYTES}
use Rattle.rv_base.specs.declared.record.Header.{Header}
use Rattle.rv_base.specs.declared.record.Place.{Place}
use Rattle.rv_base.specs.declared.record.Refusal.{Refusal}
use Rattle.rv_base.specs.declared.record.TableEntry.{TableEntry}
use Rattle.rv_base.specs.declared.rules.TheConstants.{SHORT}
use Rattle.rv_base.specs.declared.record.Tuple.{Tuple}
use Rattle.rv_spec.specs.Digest.{Lanes, digest}
use Rattle.rv_spec.specs.Record.{Shard}
use Rattle.rv_spec.specs.Tuples.{tuple_last, tuple_read, tuple_written}
use Rattle.rv_spec.specs.Words.{u32_at}
use Rattle.rv_rules.specs.Checks.{◌>>=◌}
use Rattle.rv_rules.specs.Reading.{Reading}
use Rattle.rv_reading.specs.Machine.{first_tuple, shards_events}
use Rattle.rv_judge.specs.Subject.{Subject}
use Rattle.rv_judge.specs.Alone.{read_table, stated}
use Rattle.rv_parts.specs.declared.heads.PartHead.{PartHead}
use Rattle.rv_parts.specs.declared.summaries.Cut.{Cut}
use Rattle.rv_parts.specs.declared.summaries.Summary.{Summary}
use Rattle.rv_parts.specs.Alone.{shards_alone}

abbrev pub is_last : PartHead → Bool
is_last head = head.number + 1 == head.parts

-- ---- what a part tells that breaks no check

-- The place after its last row, the digests of what is read and written in it, the number of the table's entries, and whether a byte follows the table.
pub record Told : Type 0 where
  pub after : Place
  pub reads : List ℕ
  pub writes : List ℕ
  pub entries : ℕ
  pub trailing : Bool

-- the shards from shard i on, in a part other than the last
abbrev pub shards_tell : Lanes → Subject → ℕ → Reading (List Shard) → Told
shards_tell lanes s i y =
    let es = shards_events s.header i y.part in
    record { after = y.place; reads = digest lanes (map tuple_read es); writes = digest lanes (map tuple_written es); entries = 0; trailing = false }

-- the shards from shard i on and the table behind them, in the last part
abbrev pub shards_and_table_tell : Lanes → Subject → ℕ → Reading (List Shard) → List TableEntry × List ℕ → Told
shards_and_table_tell lanes s i y table =
    let es = shards_events s.header i y.part in
    record {
      after = y.place;
      reads = digest lanes (map tuple_read es ++ map tuple_last table.0);
      writes = digest lanes (map tuple_written es ++ map (first_tuple s.elf s.header) table.0);
      entries = u32_at y.left 0;
      trailing = not (length table.1 == 0);
    }

-- the first broken check of its shards and then, in the last part, of the table; or what it tells
abbrev pub tells : Lanes → Subject → PartHead → List ℕ → Result Told Refusal
tells lanes s head body = do
  y ← shards_alone lanes s head.count head.first body
  if is_last head then (read_table s.header y.left >>= λ table. Ok (shards_and_table_tell lanes s head.first y table)) else Ok (shards_tell lanes s head.first y)

-- ---- parts that are cut

-- shards that were read end within their bytes, or other bytes follow
abbrev pub ends_elsewhere : Result (Reading (List Shard)) Refusal → Bool
ends_elsewhere (Ok y) = not (length y.left == 0)
ends_elsewhere (Err r) = r.rule == SHORT

abbrev pub is_cut : Lanes → Subject → PartHead → List ℕ → Bool
is_cut lanes s head body = not (is_last head) && ends_elsewhere (shards_alone lanes s head.count head.first body)

-- ---- summaries

-- the place that the first shard states, if its head is there
abbrev pub place_before : List ℕ → Option Place
place_before body = if nat_le HEAD_BYTES (length body) then Some (stated body) else None

abbrev pub told_in : Summary → Told
told_in x = record { after = x.after; reads = x.reads.lanes; writes = x.writes.lanes; entries = x.entries; trailing = x.trailing }

-- Where a check is broken, the fields from `after` to `trailing` say nothing.
pub record IsSummary (lanes : Lanes) (s : Subject) (head : PartHead) (body : List ℕ) (x : Summary) : Type 0 where
  pub first : x.first ≡ head.first
  pub count : x.count ≡ head.count
  pub before : x.before ≡ place_before body
  pub found : MatchResult (tells lanes s head body) (λ told. (x.refusal ≡ None) × (told_in x ≡ told)) (λ r. x.refusal ≡ Some r)

abbrev pub Summarizes : Lanes → Subject → PartHead → List ℕ → Result Summary Cut → Type 0
Summarizes lanes s head body (Ok x) = (is_cut lanes s head body ≡ false) × IsSummary lanes s head body x
Summarizes lanes s head body (Err c) = is_cut lanes s head body ≡ true

-- ---- what the code makes

-- it is of the part with this head, whose first shard states this place
pub record IsOfPart (head : PartHead) (before : Option Place) (x : Summary) : Type 0 where
  pub first : x.first ≡ head.first
  pub count : x.count ≡ head.count
  pub stated : x.before ≡ before

pub record IsSamePart (x y : Summary) : Type 0 where
  pub first : y.first ≡ x.first
  pub count : y.count ≡ x.count
  pub stated : y.before ≡ x.before

-- the table at the front of the bytes is added to what the shards before it tell, or refused
abbrev pub AddsTable : Lanes → List ℕ → Header → Summary → List ℕ → Summary → Type 0
AddsTable lanes elf h shards bytes x =
    MatchResult (read_table h bytes)
    (λ table. (read written : List Tuple) → shards.reads.lanes ≡ digest lanes read → shards.writes.lanes ≡ digest lanes written → (x.refusal ≡ None) × (told_in x ≡ record {
      after = shards.after;
      reads = digest lanes (read ++ map tuple_last table.0);
      writes = digest lanes (written ++ map (first_tuple elf h) table.0);
      entries = u32_at bytes 0;
      trailing = not (length table.1 == 0);
    }))
    (λ r. x.refusal ≡ Some r)
