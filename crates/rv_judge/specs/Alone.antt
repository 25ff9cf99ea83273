-- Shards, table and end of a file, each judged alone.
use Rattle.std.specs.Prelude.{◌≡◌, ◌≤◌, ℕ, ◌*◌, ◌%◌, true, Bool, not, ◌&&◌, ◌==◌, List, [], ◌∷◌, length, map, drop, None, Result, Ok, Err, nat_le}
use Rattle.rv_base.specs.declared.rules.TheConstants.{SHORT, SHARD_HEAD}
use Rattle.rv_base.specs.declared.layout.TheConstants.{COUNT_BYTES, HEAD_BYTES}
use Rattle.rv_base.specs.declared.record.Header.{Header}
use Rattle.rv_base.specs.declared.record.Place.{Place}
use Rattle.rv_base.specs.declared.record.Refusal.{Refusal}
use Rattle.rv_base.specs.declared.record.ShardHead.{ShardHead}
use Rattle.rv_base.specs.declared.record.TableEntry.{TableEntry}
use Rattle.rv_base.specs.declared.record.Verdict.{Verdict}
use Rattle.rv_spec.specs.Words.{u32_at}
use Rattle.rv_spec.specs.Tuples.{events, tuple_last, tuple_read, tuple_written}
use Rattle.rv_spec.specs.Record.{Shard}
use Rattle.rv_spec.specs.Digest.{Lanes, digest}
use Rattle.rv_rules.specs.Checks.{unless_broken, ◌>>=◌}
use Rattle.rv_rules.specs.Reading.{Reading, head_of, read_shard, read_entries}
use Rattle.rv_reading.specs.Machine as machine
use Rattle.rv_judge.specs.declared.alone.ShardSeen.{ShardSeen}
use Rattle.rv_judge.specs.declared.alone.TableSeen.{TableSeen}
use Rattle.rv_judge.specs.Phases.{end_checks}
use Rattle.rv_judge.specs.Subject.{Subject}

-- the place that the head of a shard states
abbrev pub stated_in : ShardHead → Place
stated_in head = record { pc = head.pc; input = head.input; output = head.output }

abbrev pub stated : List ℕ → Place
stated bytes = stated_in (head_of bytes)

-- a run can stand there: at the address of an instruction, within the input and the output
abbrev pub can_stand : Place → List ℕ → List ℕ → Bool
can_stand p input output = p.pc % 4 == 0 && nat_le p.input (length input) && nat_le p.output (length output)

-- Shard i at the front of the bytes, judged from the place that its own head states; rule 9 is broken where no run can stand there.
abbrev pub read_alone : Lanes → Subject → ℕ → List ℕ → Result (Reading Shard) Refusal
read_alone lanes s i bytes =
    unless_broken i 0 ((SHORT, nat_le HEAD_BYTES (length bytes)) ∷ (SHARD_HEAD, can_stand (stated bytes) s.input s.output) ∷ []) bytes
    >>= read_shard true lanes s.elf s.input s.header s.output i (stated bytes)

-- What was seen of shard i that was read: its head, the place after it, the digests of the tuples that its rows read and write, and its length.
pub record IsShardSeen (lanes : Lanes) (h : Header) (i : ℕ) (bytes : List ℕ) (seen : ShardSeen) (x : Reading Shard) : Type 0 where
  pub head : seen.head ≡ x.part.head
  pub after : seen.after ≡ x.place
  pub reads : seen.reads.lanes ≡ digest lanes (map tuple_read (events (i * h.size) x.part.rows))
  pub writes : seen.writes.lanes ≡ digest lanes (map tuple_written (events (i * h.size) x.part.rows))
  pub used : seen.used ≤ length bytes
  pub left : x.left ≡ drop seen.used bytes

abbrev pub SeesShard : Lanes → Subject → ℕ → List ℕ → Result ShardSeen Refusal → Type 0
SeesShard lanes s i bytes (Ok seen) = (x : Reading Shard) × (read_alone lanes s i bytes ≡ Ok x) × IsShardSeen lanes s.header i bytes seen x
SeesShard lanes s i bytes (Err r) = read_alone lanes s i bytes ≡ Err r

-- the table at the front of the bytes: the number of its entries, and these
abbrev pub read_table : Header → List ℕ → Result (List TableEntry × List ℕ) Refusal
read_table h bytes = unless_broken h.shards 0 ((SHORT, nat_le COUNT_BYTES (length bytes)) ∷ []) (drop COUNT_BYTES bytes) >>= read_entries (u32_at bytes 0) h 0 None

-- What was seen of a table that was read: the number of its entries, the digests of the tuples by which its cells are read at the end and written before the first step, and its length.
pub record IsTableSeen (lanes : Lanes) (elf : List ℕ) (h : Header) (bytes : List ℕ) (seen : TableSeen) (x : List TableEntry × List ℕ) : Type 0 where
  pub entries : seen.entries ≡ u32_at bytes 0
  pub reads : seen.reads.lanes ≡ digest lanes (map tuple_last x.0)
  pub writes : seen.writes.lanes ≡ digest lanes (map (machine.first_tuple elf h) x.0)
  pub used : seen.used ≤ length bytes
  pub left : x.1 ≡ drop seen.used bytes

abbrev pub SeesTable : Lanes → List ℕ → Header → List ℕ → Result TableSeen Refusal → Type 0
SeesTable lanes elf h bytes (Ok seen) = (x : List TableEntry × List ℕ) × (read_table h bytes ≡ Ok x) × IsTableSeen lanes elf h bytes seen x
SeesTable lanes elf h bytes (Err r) = read_table h bytes ≡ Err r

-- the verdict at the end of a file
abbrev pub ended : Header → Place → machine.Sums → ℕ → Bool → Verdict
ended h after all entries trailing = machine.told h (unless_broken h.shards entries (end_checks h after all (not trailing)) after)
