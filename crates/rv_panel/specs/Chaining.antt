-- Shards that were checked alone, chained in the file's order.
use Rattle.std.specs.Prelude.{◌≡◌, ◌⊎◌, ℕ, ◌+◌, ◌<◌, ◌≤◌, true, false, List, length, map, Result, Ok, Err}
use Rattle.rv_base.specs.declared.layout.TheConstants.{HEAD_BYTES, DIGESTS_BYTES}
use Rattle.rv_base.specs.declared.rules.TheConstants.{SHORT, SHARD_HEAD}
use Rattle.rv_base.specs.declared.record.Place.{Place}
use Rattle.rv_base.specs.declared.record.Refusal.{Refusal}
use Rattle.rv_base.specs.declared.record.Verdict.{Verdict}
use Rattle.rv_base.specs.declared.record.Verdict.TheVariants.{Refuse}
use Rattle.rv_spec.specs.Digest.{Lanes, digest}
use Rattle.rv_spec.specs.Tuples.{Event, tuple_read, tuple_written}
use Rattle.rv_rules.specs.Reading.{head_of, same_place}
use Rattle.rv_file.specs.Parsing.{behind_shards}
use Rattle.rv_reading.specs.Machine.{event_sums, told}
use Rattle.rv_reading.specs.Machine.Phase.{Shards}
use Rattle.rv_reading.specs.Machine.Extent.{WholeFile}
use Rattle.rv_reading.specs.Parts.{runs}
use Rattle.rv_book.specs.Journal.{BookState, IsWhole}
use Rattle.rv_base.specs.declared.record.Header.{Header}
use Rattle.rv_program.specs.Files.{Files}
use Rattle.rv_judge.specs.Subject.{Subject}
use Rattle.rv_panel.specs.Pieces.{shard_piece}
use Rattle.rv_panel.specs.declared.chain.Chained.{Chained}

-- what shards are judged against
abbrev pub subject_of : Files → Header → List ℕ → Subject
subject_of files h output = record { elf = files.elf; input = files.input; header = h; output = output }

-- the verdict, where n shards from shard i on and then the table are at the front of the bytes, behind these events
abbrev pub verdict_from : Lanes → Subject → ℕ → ℕ → Place → List Event → List ℕ → Verdict
verdict_from lanes s n i p es bytes = told s.header (runs true lanes s.elf s.input s.header s.output WholeFile (Shards n i p (event_sums true lanes es)) bytes)

-- The pieces of all shards, as far as their heads are there.
pub record AreChecked (lanes : Lanes) (s : Subject) (shards : List ℕ) (book : BookState) : Type 0 where
  pub found : ℕ
  pub few : found ≤ s.header.shards
  pub next : found < s.header.shards → length (behind_shards found shards) < HEAD_BYTES
  pub whole : IsWhole (shard_piece lanes s shards) found book

-- the head at the front states the place, and tells the bytes of its shard; or it is not there, or it states another place
abbrev pub IsLinked : ℕ → Place → List ℕ → Result ℕ Refusal → Type 0
IsLinked i p rest (Ok n) = (HEAD_BYTES ≤ length rest) × (same_place (head_of rest) p ≡ true) × (n ≡ HEAD_BYTES + DIGESTS_BYTES + (head_of rest).bytes)
IsLinked i p rest (Err r) =
    ((length rest < HEAD_BYTES) × (r ≡ record { shard = i; row = 0; rule = SHORT }))
    ⊎ ((HEAD_BYTES ≤ length rest) × (same_place (head_of rest) p ≡ false) × (r ≡ record { shard = i; row = 0; rule = SHARD_HEAD }))

-- the digests of these events
pub record AreDigests (lanes : Lanes) (es : List Event) (reads writes : List ℕ) : Type 0 where
  pub reads_are : reads ≡ digest lanes (map tuple_read es)
  pub writes_are : writes ≡ digest lanes (map tuple_written es)

-- What is known behind the shards: the verdict is that on the table and the end from there on.
pub record IsChained (lanes : Lanes) (s : Subject) (whole : Verdict) (c : Chained) (es : List Event) : Type 0 where
  pub digests : AreDigests lanes es c.reads.lanes c.writes.lanes
  pub verdict : whole ≡ verdict_from lanes s 0 s.header.shards c.place es c.rest.now

abbrev pub Chains : Lanes → Subject → Verdict → Result Chained Refusal → Type 0
Chains lanes s whole (Ok c) = (es : List Event) × IsChained lanes s whole c es
Chains lanes s whole (Err r) = whole ≡ Refuse r
