-- How the run of a generated program on its input ends (this project's own).
use Rattle.std.specs.Prelude.{◌≡◌, ℕ, ◌+◌, ◌*◌, ◌/◌, ◌≤◌, List, length, None}
use Rattle.std.specs.Int.{IsInRange}
use Rattle.rv_base.specs.declared.limits.TheConstants.{ELF_LIMIT}
use Rattle.rv_base.specs.declared.machine.TheConstants.{EXIT}
use Rattle.rv_base.specs.declared.record.End.{End}
use Rattle.rv_spec.specs.Elf.{first_fault, image}
use Rattle.rv_spec.specs.Run.{EndsIn}
use Rattle.rv_gen.specs.Programs.{IsProgram}

-- the exit with code 0
abbrev pub success : End
success = record { kind = EXIT; code = 0 }

-- The executable has no fault and is within its limit, the input has 256 bytes, and the run ends with success in few steps, the ending one counted: 163 at most in each round, of which there is one for 42 of the size, and 25 before and behind the rounds.
pub record Succeeds (size : ℕ) (file input : List ℕ) : Type 0 where
  pub faultless : first_fault file ≡ None
  pub file_within : length file ≤ ELF_LIMIT
  pub input_length : length input ≡ 256
  pub steps : ℕ
  pub ends : EndsIn (image 1 file) input steps success
  pub few : steps ≤ 163 * (size / 42) + 25
  pub most : steps ≤ 326025

-- each generated program of a size from 42 to 84,000 succeeds on its input
abbrev pub ProgramsSucceed : Type 0
ProgramsSucceed = (number size : ℕ) (file input : List ℕ) → IsInRange 42 84000 size → IsProgram number size file input → Succeeds size file input
