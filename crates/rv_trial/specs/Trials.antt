-- The trial of a number and a size: the record of the run of their generated program on its input, at version 1 and with 1,024 rows a shard, and what is told of it (this project's own).
use Rattle.std.specs.Prelude.{◌≡◌, ℕ, zero, suc, ◌≤◌, List, length, map, take, Option, Some, None, option_map}
use Rattle.std.specs.List.{flat_map}
use Rattle.std.specs.Int.{IsInRange, div_ceil}
use Rattle.sha2.specs.Sha512.{sha512}
use Rattle.rv_base.specs.declared.record.End.{End}
use Rattle.rv_base.specs.declared.record.Verdict.TheVariants.{Accept}
use Rattle.rv_spec.specs.Elf.{Image, image}
use Rattle.rv_spec.specs.Run.{run, end_at, EndsIn}
use Rattle.rv_spec.specs.Trace.{rows}
use Rattle.rv_spec.specs.Digest.{sha_lanes}
use Rattle.rv_spec.specs.Record.{record_file}
use Rattle.rv_rules.specs.Verdict.{verdict}
use Rattle.rv_decode.specs.Encoding.{word_of}
use Rattle.rv_gen.specs.Programs.{program, executable_of}
use Rattle.rv_gen.specs.Runs.{success}
use Rattle.rv_trial.specs.declared.summary.Trial.{Trial}

-- ---- the program and its input

-- the executable of the words of the instructions
abbrev pub elf_of : ℕ → ℕ → List ℕ
elf_of number size = executable_of (map word_of (program number size).0)

abbrev pub input_of : ℕ → ℕ → List ℕ
input_of number size = (program number size).1

abbrev pub image_of : ℕ → ℕ → Image
image_of number size = image 1 (elf_of number size)

-- ---- its run

-- the earlier of an end within some steps and one at the next step
abbrev pub earlier : Option (ℕ × End) → ℕ → Option End → Option (ℕ × End)
earlier (Some ended) steps e = Some ended
earlier None steps None = None
earlier None steps (Some e) = Some (steps, e)

-- the number of steps of a run, the ending one counted, and its end, if it ends within a budget
unfoldable pub ends_within : Image → List ℕ → ℕ → Option (ℕ × End)
ends_within i input zero = None
ends_within i input (suc n) = earlier (ends_within i input n) (suc n) (end_at i input n)

-- ---- the trial

-- the rows of each shard but the last
abbrev pub shard_rows : ℕ
shard_rows = 1024

abbrev pub budget : ℕ
budget = 8388608

-- the record of the run, which ends so
abbrev pub record_of : ℕ → ℕ → ℕ × End → List ℕ
record_of number size ended = record_file sha_lanes 1 (elf_of number size) (input_of number size) shard_rows ended.0 ended.1

-- what is told of the run and of its record, where the run ends so
unfoldable pub told : ℕ → ℕ → ℕ × End → Trial
told number size ended =
    let i = image_of number size in
    let input = input_of number size in
    let file = record_of number size ended in
    record {
      steps = ended.0;
      shards = div_ceil ended.0 shard_rows;
      accesses = length (flat_map (λ r. r.accesses) (rows i input 0 ended.0));
      output = length (run i input ended.0).output;
      bytes = length file;
      «record» = take 8 (sha512 file);
    }

-- what is told of the trial of a number and a size, whose run ends within the budget
abbrev pub trial : ℕ → ℕ → Option Trial
trial number size = option_map (told number size) (ends_within (image_of number size) (input_of number size) budget)

-- The run exits with code 0 after the steps that are told, and its record is accepted with these steps and shards.
pub record Accepted (number size : ℕ) (t : Trial) : Type 0 where
  pub ends : EndsIn (image_of number size) (input_of number size) t.steps success
  pub few : t.steps ≤ 326025
  pub verdict : verdict sha_lanes (elf_of number size) (input_of number size) (record_of number size (t.steps, success)) ≡ Accept t.steps t.shards success

-- The trial is told: the run exits with code 0 after the steps that are told, within 326,025.
pub record IsTold (number size : ℕ) : Type 0 where
  pub told : Trial
  pub is : trial number size ≡ Some told
  pub ends : EndsIn (image_of number size) (input_of number size) told.steps success
  pub few : told.steps ≤ 326025

-- The law: the trial of each number and each size from 42 to 84,000 is told.
abbrev pub TrialsAreTold : Type 0
TrialsAreTold = (number size : ℕ) → IsInRange 42 84000 size → IsTold number size
