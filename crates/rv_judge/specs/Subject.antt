-- What the part of a record file behind its header and output is judged against.
use Rattle.std.specs.Prelude.{◌≡◌, ◌⊎◌, ◌≤◌, ℕ, true, List, None}
use Rattle.std.specs.Int.{IsInRange}
use Rattle.rv_base.specs.declared.limits.TheConstants.{SHARD_SIZE_LIMIT, SHARDS_LIMIT}
use Rattle.rv_base.specs.declared.record.Header.{Header}
use Rattle.rv_spec.specs.Digest.{Lanes}
use Rattle.rv_rules.specs.Checks.{first_broken}
use Rattle.rv_rules.specs.Reading.{number_checks}
use Rattle.rv_reading.specs.Stream.{StepOf}
use Rattle.rv_reading.specs.Machine as machine

-- the files of the program, and the header and the output that stand in front
pub record Subject : Type 0 where
  pub elf : List ℕ
  pub input : List ℕ
  pub header : Header
  pub output : List ℕ

-- a step of the machine that judges by digests too
abbrev pub step_to : Lanes → Subject → machine.Extent → StepOf machine.Phase
step_to lanes s extent = machine.step_to true lanes s.elf s.input s.header s.output extent

abbrev pub step : Lanes → Subject → StepOf machine.Phase
step lanes s = machine.step true lanes s.elf s.input s.header s.output

-- a header of a known version whose numbers break no rule
pub record IsChecked (h : Header) : Type 0 where
  pub version : IsInRange 1 2 h.version
  pub numbers : first_broken (number_checks h) ≡ None

-- a header within the limits of what is counted
pub record IsWithin (h : Header) : Type 0 where
  pub version : (h.version ≡ 1) ⊎ (h.version ≡ 2)
  pub some_rows : 1 ≤ h.size
  pub rows : h.size ≤ SHARD_SIZE_LIMIT
  pub shards : h.shards ≤ SHARDS_LIMIT
