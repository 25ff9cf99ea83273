use Rattle.std.proofs.Common.{arith}
use Rattle.rv_rules.proofs.Lemmas.{bytes-are}
use Rattle.rv_panel.proofs.checking.concludes.Goals as goal

pub returns-clause-sound : goal.returns-clause-sound
returns-clause-sound c = λ lanes.
    let p = c.args.program.now in
    c.verdicts_conclude.ensures.sound lanes p.elf p.input c.args.file.now c.image-image.ensures.faultless c.image-image.ensures.bytes c.input-input.ensures.bytes (bytes-are c.args.file.now (λ i. omega (arith, c.type_inv.file i)))

pub returns-clause-accepts : goal.returns-clause-accepts
returns-clause-accepts c = λ lanes.
    let p = c.args.program.now in
    c.verdicts_conclude.ensures.accepts lanes p.elf p.input c.args.file.now c.image-image.ensures.bytes c.input-input.ensures.bytes
