-- A shard in the making.
use Rattle.std.specs.Prelude.{◌≡◌, ◌+◌, ◌*◌, ◌^◌, ◌≤◌, ℕ, List, [], ◌++◌, length, map}
use Rattle.std.specs.List.{flat_map}
use Rattle.rv_base.specs.declared.limits.TheConstants.{SHARD_SIZE_LIMIT}
use Rattle.rv_base.specs.declared.layout.TheConstants.{HEAD_BYTES}
use Rattle.rv_spec.specs.Elf.{Image}
use Rattle.rv_spec.specs.Run.{run}
use Rattle.rv_spec.specs.Digest.{Lanes}
use Rattle.rv_spec.specs.Trace.{rows}
use Rattle.rv_spec.specs.Tuples.{events, tuple_read, tuple_written}
use Rattle.rv_spec.specs.Record.{row_bytes, place_at}
use Rattle.rv_spec.specs.Words.{AreBytes}
use Rattle.rv_rules.specs.Agreement.{IsProgram}
use Rattle.rv_pairs.specs.declared.pairing.Pairing.{Pairing}
use Rattle.rv_pairs.specs.Covers.{Covers}
use Rattle.rv_point.specs.declared.start.ShardStart.{ShardStart}
use Rattle.rv_point.specs.Replays.{IsReplaying}
use Rattle.rv_replay.specs.declared.rows.Making.{Making}

-- The first m of n rows from row k on are made: behind room for the head stand their bytes, and the tuples that they read and write are paired.
pub record HasMade (lanes : Lanes) (i : Image) (input : List ℕ) (k n m : ℕ) (made : Making) (pairing : Pairing) : Type 0 where
  pub replaying : IsReplaying i input k n m made.hart
  pub room : List ℕ
  pub size : length room ≡ HEAD_BYTES
  pub bytes : made.bytes.items ≡ room ++ flat_map row_bytes (rows i input k m)
  pub covers : Covers lanes pairing (map tuple_read (events k (rows i input k m))) (map tuple_written (events k (rows i input k m)))
  pub put : length (run i input k).output + made.put ≡ length (run i input (k + m)).output
  pub few : made.put ≤ 4 * m

-- The start is that of at most as many rows as a shard has, behind what the run put, with its place.
pub record IsStartOf (i : Image) (input : List ℕ) (s : ShardStart) : Type 0 where
  pub few : s.rows ≤ SHARD_SIZE_LIMIT
  pub number : s.step + s.rows ≤ 2 ^ 32
  pub place_is : s.place ≡ place_at i input s.step
  pub output : length (run i input s.step).output ≤ 4 * s.step

-- a shard that is begun, for any lanes, before a tuple is paired
pub record IsBegun (i : Image) (input : List ℕ) (s : ShardStart) (made : Making) : Type 0 where
  pub program : IsProgram i
  pub input_bytes : AreBytes input
  pub start : IsStartOf i input s
  pub image : made.hart.cells.image ≡ i
  pub input_is : made.hart.input ≡ input
  pub none_made : (lanes : Lanes) (pairing : Pairing) → Covers lanes pairing [] [] → HasMade lanes i input s.step s.rows 0 made pairing
