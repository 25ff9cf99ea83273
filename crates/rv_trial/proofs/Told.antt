-- What is told of a run and its record is what is due.
use Rattle.std.proofs.Common.{◌≡◌, ℕ, List, length, take, Some, option_map, sym, ap, subst, ◌∙◌, arith}
use Rattle.std.specs.Int.{div_ceil}
use Rattle.sha2.specs.Sha512.{sha512}
use Rattle.rv_base.specs.declared.record.End.{End}
use Rattle.rv_base.specs.declared.record.Verdict.TheVariants.{Accept}
use Rattle.rv_spec.specs.Elf.{image}
use Rattle.rv_spec.specs.Run.{run, EndsIn}
use Rattle.rv_spec.specs.Digest.{sha_lanes}
use Rattle.rv_spec.specs.Record.{record_file}
use Rattle.rv_rules.specs.Verdict.{verdict}
use Rattle.rv_program.specs.Files.{Files}
use Rattle.rv_point.specs.PointsState.{PointsState}
use Rattle.rv_gen.specs.Runs.{Succeeds, success}
use Rattle.rv_trial.specs.declared.summary.Trial.{Trial}
use Rattle.rv_trial.specs.Trials.{Accepted, budget, elf_of, image_of, input_of, shard_rows, told, trial}
use Rattle.rv_trial.specs.Recording.{EndsInBudget, IsSurveyed, accesses_of, recorded}
use Rattle.rv_trial.proofs.Ends.{ends-once, found-within}

-- the program and the input of a number and a size
abbrev pub files_of : ℕ → ℕ → Files
files_of number size = record { elf = elf_of number size; input = input_of number size }

-- a program that succeeds ends within the budget
pub in-budget : (size : ℕ) (f : Files) → Succeeds size f.elf f.input → EndsInBudget f
in-budget size f s = record { steps = s.steps; end = success; ends = s.ends; within = omega (arith, s.most) }

module _ (number size : ℕ) (f : Files) (p : PointsState) (is : f ≡ files_of number size) (survey : IsSurveyed f p) where
  ends-here : EndsIn (image_of number size) (input_of number size) p.steps p.end
  ends-here = subst (λ (g : Files). EndsIn (image 1 g.elf) g.input p.steps p.end) is survey.ends

  pub told-is : (steps shards accesses output bytes : ℕ) (first file : List ℕ) → steps ≡ p.steps → shards ≡ div_ceil p.steps shard_rows → accesses ≡ accesses_of f p → output ≡ length (run p.image p.input p.steps).output
      → bytes ≡ length file → first ≡ take 8 (sha512 file) → file ≡ recorded f p → trial number size ≡ Some (record { steps = steps; shards = shards; accesses = accesses; output = output; bytes = bytes; «record» = first })
  unfolding told
  told-is steps shards accesses output bytes first file steps_are shards_are accesses_are output-is bytes_are first_is file-is =
      let due : file ≡ recorded (files_of number size) p = file-is ∙ ap (λ (g : Files). recorded g p) is in
      let uses : accesses ≡ accesses_of (files_of number size) p = accesses_are ∙ ap (λ (g : Files). accesses_of g p) is in
      let put : output ≡ length (run (image_of number size) (input_of number size) p.steps).output =
      output-is ∙ ap (λ k. length (run k p.input p.steps).output) survey.image_is ∙ ap (λ x. length (run (image 1 f.elf) x p.steps).output) survey.input_is ∙ ap (λ (g : Files). length (run (image 1 g.elf) g.input p.steps).output) is in
      let size_is : bytes ≡ length (recorded (files_of number size) p) = bytes_are ∙ ap length due in
      let print_is : first ≡ take 8 (sha512 (recorded (files_of number size) p)) = first_is ∙ ap (λ x. take 8 (sha512 x)) due in
      let same : ◌≡◌ {A = Trial} (told number size (p.steps, p.end)) (record { steps = steps; shards = shards; accesses = accesses; output = output; bytes = bytes; «record» = first }) =
      sym (λ i. record { steps = steps_are i; shards = shards_are i; accesses = uses i; output = put i; bytes = size_is i; «record» = print_is i }) in
      ap (option_map (told number size)) (found-within (image_of number size) (input_of number size) p.steps budget p.end ends-here survey.within) ∙ ap Some same

  pub accepted-is : (t : Trial) (file : List ℕ) → Succeeds size f.elf f.input → t.steps ≡ p.steps → t.shards ≡ div_ceil p.steps shard_rows → file ≡ recorded f p
      → verdict sha_lanes f.elf f.input file ≡ Accept p.steps (div_ceil p.steps shard_rows) p.end → Accepted number size t
  accepted-is t file s steps_are shards_are file-is judged =
      let once = ends-once (image 1 f.elf) f.input s.steps p.steps budget success p.end s.ends survey.ends (omega (arith, s.most)) survey.within in
      let end_is : success ≡ p.end = ap (λ (x : ℕ × End). x.1) once in
      let as_many : s.steps ≡ p.steps = ap (λ (x : ℕ × End). x.0) once in
      let back : files_of number size ≡ f = sym is in
      record {
        ends = subst (λ n. EndsIn (image_of number size) (input_of number size) n success) (sym steps_are) (subst (λ e. EndsIn (image_of number size) (input_of number size) p.steps e) (sym end_is) ends-here);
        few = omega (arith, as_many, steps_are, s.most);
        verdict = (λ i. verdict sha_lanes (back i).elf (back i).input (record_file sha_lanes 1 (back i).elf (back i).input shard_rows (steps_are i) (end_is i))) ∙ ap (verdict sha_lanes f.elf f.input) (sym file-is) ∙ judged
            ∙ sym (λ i. Accept (steps_are i) (shards_are i) (end_is i));
      }
