use Rattle.std.proofs.Common.{arith}
use Rattle.rv_spec.specs.Elf.{image}
use Rattle.rv_trial.proofs.trials.has_record.Goals as goal

pub returns : goal.returns
returns c =
    let elf = c.args.program.now.elf in
    let input = c.args.program.now.input in
    let steps = c.args.points.now.steps in
    let fits = c.ranges-2.ensures (image 1 elf) input (c.image_is_program.ensures 1 elf c.image-image.ensures.bytes c.image-image.ensures.faultless) c.input-input.ensures.bytes steps in
    record {
      version_within = (omega arith, omega arith);
      faultless = c.image-image.ensures.faultless;
      ends = c.requires.ends;
      size_within = (omega arith, omega arith);
      shards_within = c.requires.few;
      output_within = omega (arith, fits.put_most, c.requires.within);
    }
