use Rattle.std.proofs.Common.{refl, arith}
use Rattle.rv_rules.proofs.Lemmas.{bytes-are}
use Rattle.rv_spec.specs.Elf.{image}
use Rattle.rv_spec.specs.Words.{AreBytes}
use Rattle.rv_commands.proofs.recording.record_is_accepted.Goals as goal

pub returns-clause-has : goal.returns-clause-has
returns-clause-has c =
    let elf_bytes : AreBytes c.args.elf.now = bytes-are c.args.elf.now (λ i. omega (arith, c.type_inv.elf i)) in
    let input_bytes : AreBytes c.args.input.now = bytes-are c.args.input.now (λ i. omega (arith, c.type_inv.input i)) in
    let i = image c.args.words.now.version c.args.elf.now in
    let steps = c.args.ended.now.steps in
    let fits = c.ranges-2.ensures i c.args.input.now (c.image_is_program.ensures c.args.words.now.version c.args.elf.now elf_bytes c.requires.faultless) input_bytes steps in
    record {
      version_within = c.requires.version;
      faultless = c.requires.faultless;
      ends = c.requires.ended.ends;
      size_within = c.requires.shard;
      shards_within = c.requires.ended.few;
      output_within = omega (arith, fits.put_most, c.requires.ended.within, c.requires.budget);
    }

pub returns-clause-accepted : goal.returns-clause-accepted
returns-clause-accepted c =
    let elf_bytes : AreBytes c.args.elf.now = bytes-are c.args.elf.now (λ i. omega (arith, c.type_inv.elf i)) in
    let input_bytes : AreBytes c.args.input.now = bytes-are c.args.input.now (λ i. omega (arith, c.type_inv.input i)) in
    c.verdicts_conclude.ensures.accepts _ c.args.elf.now c.args.input.now _ elf_bytes input_bytes c.args.words.now.version c.args.words.now.shard c.args.ended.now.steps c.args.ended.now.end (returns-clause-has c) refl

pub returns-clause-short : goal.returns-clause-short
returns-clause-short c =
    let elf_bytes : AreBytes c.args.elf.now = bytes-are c.args.elf.now (λ i. omega (arith, c.type_inv.elf i)) in
    let input_bytes : AreBytes c.args.input.now = bytes-are c.args.input.now (λ i. omega (arith, c.type_inv.input i)) in
    c.record_lengths.ensures.limit _ c.args.words.now.version c.args.elf.now c.args.input.now c.args.words.now.shard c.args.ended.now.steps c.args.ended.now.end elf_bytes input_bytes c.requires.faultless (omega (arith, c.requires.ended.within, c.requires.budget)) c.requires.ended.few
