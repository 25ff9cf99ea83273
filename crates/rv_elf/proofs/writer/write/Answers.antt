use Rattle.std.proofs.Common.{length, ap, sym, subst, ◌∙◌}
use Rattle.rv_spec.specs.Elf.{first_fault, image}
use Rattle.rv_elf.specs.Written.{HoldsParts, with_bytes}
use Rattle.rv_elf.proofs.WriterLaws.{file-is}
use Rattle.rv_elf.proofs.PartLaws.{written-size, written-faultless, written-image, written-bytes}
use Rattle.rv_elf.proofs.writer.write.Goals as goal

pub returns-in-Ok-clause-file : goal.returns-in-Ok-clause-file
returns-in-Ok-clause-file c = c.in-Ok.ensures.file ∙ file-is c.args.entry c.args.parts.now c.args.bytes.now c.requires.whole

pub returns-in-Ok-clause-size : goal.returns-in-Ok-clause-size
returns-in-Ok-clause-size c =
    let r = c.requires in
    ap length (c.in-Ok.ensures.file ∙ file-is c.args.entry c.args.parts.now c.args.bytes.now r.whole)
    ∙ written-size c.args.entry c.args.parts.now c.args.bytes.now c.ranges.entry.fits r.aligned r.few c.in-Ok.ensures.ranges r.fit r.in_memory r.whole r.apart r.within_limit

pub returns-in-Ok-clause-faultless : goal.returns-in-Ok-clause-faultless
returns-in-Ok-clause-faultless c =
    let r = c.requires in
    ap first_fault (c.in-Ok.ensures.file ∙ file-is c.args.entry c.args.parts.now c.args.bytes.now r.whole)
    ∙ written-faultless c.args.entry c.args.parts.now c.args.bytes.now c.ranges.entry.fits r.aligned r.few c.in-Ok.ensures.ranges r.fit r.in_memory r.whole r.apart r.within_limit

pub returns-in-Ok-clause-image : goal.returns-in-Ok-clause-image
returns-in-Ok-clause-image c =
    let r = c.requires in
    ap (image 1) (c.in-Ok.ensures.file ∙ file-is c.args.entry c.args.parts.now c.args.bytes.now r.whole)
    ∙ written-image c.args.entry c.args.parts.now c.args.bytes.now c.ranges.entry.fits r.aligned r.few c.in-Ok.ensures.ranges r.fit r.in_memory r.whole r.apart r.within_limit

pub returns-in-Ok-clause-held : goal.returns-in-Ok-clause-held
returns-in-Ok-clause-held c =
    let r = c.requires in
    subst (λ f. HoldsParts (with_bytes c.args.parts.now c.args.bytes.now) (image 1 f)) (sym (c.in-Ok.ensures.file ∙ file-is c.args.entry c.args.parts.now c.args.bytes.now r.whole))
    (written-bytes c.args.entry c.args.parts.now c.args.bytes.now c.ranges.entry.fits r.aligned r.few c.in-Ok.ensures.ranges r.fit r.in_memory r.whole r.apart r.within_limit)
