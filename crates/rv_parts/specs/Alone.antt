-- The shards of a part, judged alone.
use Rattle.std.specs.Prelude.{◌≡◌, ℕ, true, List, [], ◌∷◌, length, map, Result, Ok, Err, nat_le}
use Rattle.rv_base.specs.declared.layout.TheConstants.{HEAD_BYTES}
use Rattle.rv_base.specs.declared.record.Header.{Header}
use Rattle.rv_base.specs.declared.record.Place.{Place}
use Rattle.rv_base.specs.declared.record.Refusal.{Refusal}
use Rattle.rv_base.specs.declared.rules.TheConstants.{SHORT, SHARD_HEAD}
use Rattle.rv_program.specs.Files.{Files}
use Rattle.rv_spec.specs.Digest.{Lanes, digest}
use Rattle.rv_spec.specs.Record.{Shard}
use Rattle.rv_spec.specs.Tuples.{tuple_read, tuple_written}
use Rattle.rv_rules.specs.Checks.{unless_broken, ◌>>=◌}
use Rattle.rv_rules.specs.Reading.{Reading, read_shard, read_shards}
use Rattle.rv_reading.specs.Machine.{shards_events}
use Rattle.rv_judge.specs.declared.alone.ShardSeen.{ShardSeen}
use Rattle.rv_judge.specs.Subject.{Subject}
use Rattle.rv_judge.specs.Alone.{IsShardSeen, can_stand, stated}
use Rattle.rv_parts.specs.declared.shards.ShardsSeen.{ShardsSeen}

-- what parts are judged against
abbrev pub subject_of : Files → Header → List ℕ → Subject
subject_of files h output = record { elf = files.elf; input = files.input; header = h; output = output }

-- n shards from shard i on, each from the place behind the one before it
abbrev pub shards_at : Lanes → Subject → ℕ → ℕ → Place → List ℕ → Result (Reading (List Shard)) Refusal
shards_at lanes s n i p bytes = read_shards true lanes s.elf s.input n s.header s.output i p bytes

-- The same, the first from the place that its own head states; rule 9 is broken where no run can stand there.
abbrev pub shards_alone : Lanes → Subject → ℕ → ℕ → List ℕ → Result (Reading (List Shard)) Refusal
shards_alone lanes s n i bytes =
    unless_broken i 0 ((SHORT, nat_le HEAD_BYTES (length bytes)) ∷ (SHARD_HEAD, can_stand (stated bytes) s.input s.output) ∷ []) bytes
    >>= shards_at lanes s n i (stated bytes)

-- ---- what the code sees

-- one shard from a place
abbrev pub SeesShardAt : Lanes → Subject → ℕ → Place → List ℕ → Result ShardSeen Refusal → Type 0
SeesShardAt lanes s i p bytes (Ok seen) = (x : Reading Shard) × (read_shard true lanes s.elf s.input s.header s.output i p bytes ≡ Ok x) × IsShardSeen lanes s.header i bytes seen x
SeesShardAt lanes s i p bytes (Err r) = read_shard true lanes s.elf s.input s.header s.output i p bytes ≡ Err r

-- The place behind shards from shard i on, the digests of what their rows read and write, and the bytes left.
pub record AreShardsSeen (lanes : Lanes) (h : Header) (i : ℕ) (seen : ShardsSeen) (y : Reading (List Shard)) : Type 0 where
  pub after : seen.after ≡ y.place
  pub reads : seen.reads.lanes ≡ digest lanes (map tuple_read (shards_events h i y.part))
  pub writes : seen.writes.lanes ≡ digest lanes (map tuple_written (shards_events h i y.part))
  pub rest : seen.rest.now ≡ y.left

abbrev pub SeesShards : Lanes → Subject → ℕ → ℕ → List ℕ → Result ShardsSeen Refusal → Type 0
SeesShards lanes s n i bytes (Ok seen) = (y : Reading (List Shard)) × (shards_alone lanes s n i bytes ≡ Ok y) × AreShardsSeen lanes s.header i seen y
SeesShards lanes s n i bytes (Err r) = shards_alone lanes s n i bytes ≡ Err r
