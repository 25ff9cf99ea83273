-- The trial of each number and size within its range is told.
use Rattle.std.proofs.Common.{ℕ, ap, arith, map, option_map, refl}
use Rattle.std.specs.Int.{IsInRange}
use Rattle.rv_decode.specs.Encoding.{word_of}
use Rattle.rv_gen.specs.Programs.{IsProgram, program}
use Rattle.rv_gen.specs.Runs.{success}
use Rattle.rv_gen.proofs.Lemmas.{program-spelled, programs-succeed}
use Rattle.rv_trial.specs.Trials.{TrialsAreTold, budget, elf_of, image_of, input_of, told}
use Rattle.rv_trial.proofs.Ends.{found-within}

-- the program of the definition is a generated program
defined-program : (number size : ℕ) → IsInRange 42 84000 size → IsProgram number size (elf_of number size) (input_of number size)
defined-program number size range = record { code = map word_of (program number size).0; spells = program-spelled number size range; elf = refl; input = refl }

pub trials-are-told : TrialsAreTold
unfolding told
trials-are-told number size range =
    let s = programs-succeed number size (elf_of number size) (input_of number size) range (defined-program number size range) in
    record {
      told = told number size (s.steps, success);
      is = ap (option_map (told number size)) (found-within (image_of number size) (input_of number size) s.steps budget success s.ends (omega (arith, s.most)));
      ends = s.ends;
      few = s.most;
    }
