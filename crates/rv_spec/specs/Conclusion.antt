-- What an accepted file is: the record of the run, or a collision of the digest (this project's own).
use Rattle.std.specs.Prelude.{◌≡◌, ℕ, ◌≤◌, List, length, None}
use Rattle.std.specs.Int.{div_ceil, IsInRange}
use Rattle.rv_base.specs.declared.limits.TheConstants.{OUTPUT_LIMIT, SHARD_SIZE_LIMIT, SHARDS_LIMIT}
use Rattle.rv_base.specs.declared.record.End.{End}
use Rattle.rv_spec.specs.Elf.{image, first_fault}
use Rattle.rv_spec.specs.Run.{run, EndsIn}
use Rattle.rv_spec.specs.Digest.{Lanes, digest}
use Rattle.rv_spec.specs.Multiset.{Same}
use Rattle.rv_spec.specs.Record.{Parts, reads, writes, record_file}
use Rattle.rv_spec.specs.Grammar.{Spells}

-- The program has an image, its run ends in n steps with the end e, and the record at this shard size is within the limits.
pub record HasRecord (version : ℕ) (elf input : List ℕ) (size n : ℕ) (e : End) : Type 0 where
  pub version_within : IsInRange 1 2 version
  pub faultless : first_fault elf ≡ None
  pub ends : EndsIn (image version elf) input n e
  pub size_within : IsInRange 1 SHARD_SIZE_LIMIT size
  pub shards_within : div_ceil n size ≤ SHARDS_LIMIT
  pub output_within : length (run (image version elf) input n).output ≤ OUTPUT_LIMIT

-- The file is the record, at this shard size, of the run of the program on the input, which ends in n steps with the end e.
pub record IsRecord (lanes : Lanes) (version : ℕ) (elf input : List ℕ) (size n : ℕ) (e : End) (file : List ℕ) : Type 0 where
  pub has : HasRecord version elf input size n e
  pub is : file ≡ record_file lanes version elf input size n e

-- The file spells parts whose two lists of tuples, all that is read and all that is written, are different multisets of one digest.
pub record IsCollision (lanes : Lanes) (elf file : List ℕ) : Type 0 where
  pub parts : Parts
  pub spells : Spells parts file
  pub one_digest : digest lanes (reads parts) ≡ digest lanes (writes (image parts.header.version elf) parts)
  pub differ : ¬ (Same (reads parts) (writes (image parts.header.version elf) parts))
