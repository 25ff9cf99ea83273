-- A file that was parsed, as its parts.
use Rattle.std.specs.Prelude.{◌≡◌, ℕ, zero, suc, ◌+◌, ◌≤◌, List, [], length, drop, Result, Ok, Err}
use Rattle.rv_base.specs.declared.layout.TheConstants.{HEAD_BYTES, DIGESTS_BYTES}
use Rattle.rv_base.specs.declared.record.Header.{Header}
use Rattle.rv_base.specs.declared.record.Refusal.{Refusal}
use Rattle.rv_spec.specs.Record.{Parts}
use Rattle.rv_spec.specs.Grammar.{Spells}
use Rattle.rv_rules.specs.Reading.{header_of, head_of}
use Rattle.rv_rules.specs.Verdict.{parse}

-- the parts that were read; where the form is broken there are none to show
abbrev pub parts_or_none : Result Parts Refusal → Parts
parts_or_none (Ok p) = p
parts_or_none (Err r) = record { header = header_of []; output = []; shards = []; table = [] }

-- the parts that a file spells
unfoldable pub parts_of : List ℕ → Parts
parts_of file = parts_or_none (parse file)

-- A file of good form, with its header and the number of its table's entries.
pub record RepresentsFile (file : List ℕ) (h : Header) (entries : ℕ) : Type 0 where
  pub spells : Spells (parts_of file) file
  pub header : h ≡ (parts_of file).header
  pub count : entries ≡ length (parts_of file).table

-- the bytes of the shard at the front, by what its head states
abbrev pub shard_size : List ℕ → ℕ
shard_size bytes = HEAD_BYTES + DIGESTS_BYTES + (head_of bytes).bytes

-- the bytes behind n shards at the front, by the sizes that their heads state
unfoldable pub behind_shards : ℕ → List ℕ → List ℕ
behind_shards zero bytes = bytes
behind_shards (suc n) bytes = behind_shards n (drop (shard_size bytes) bytes)

-- the bytes hold n shards of these sizes
unfoldable pub HoldsShards : ℕ → List ℕ → Type 0
HoldsShards zero bytes = Unit {0}
HoldsShards (suc n) bytes = (shard_size bytes ≤ length bytes) × HoldsShards n (drop (shard_size bytes) bytes)
