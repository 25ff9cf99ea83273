use Rattle.std.proofs.Common.{ap}
use Rattle.rv_program.specs.Files.{Files}
use Rattle.rv_plan.proofs.Lemmas.{handed-on, image-refused}
use Rattle.rv_commands.specs.Commands.{join_words}
use Rattle.rv_commands.specs.Outcome.{all_parts}
use Rattle.rv_commands.proofs.Joining.{join-joined, join-performs}
use Rattle.rv_commands.proofs.join.join.Goals as goal

pub returns-in_err-loaded-clause-performs : goal.returns-in_err-loaded-clause-performs
returns-in_err-loaded-clause-performs g c =
    rw (handed-on c.from_residual.result c.in_err-loaded.field-0.0 c.from_residual.ensures.1) (c.in_err-loaded.ensures (all_parts (join_words c.args.words.now)))

pub returns-in_err-program-clause-performs : goal.returns-in_err-program-clause-performs
returns-in_err-program-clause-performs g c =
    let w = join_words c.args.words.now in
    rw (handed-on c.from_residual-in_err-program.result c.in_err-program.field-0.0 c.from_residual-in_err-program.ensures.1)
    (image-refused w.elf w.input _ _ c.in_ok-loaded.loaded (all_parts w) c.in_err-program.field-0.0 c.in_ok-loaded.ensures c.in_err-program.ensures.fault)

pub returns-clause-performs : goal.returns-clause-performs
returns-clause-performs g c =
    let files = c.in_ok-program.ensures.files in
    join-performs (join_words c.args.words.now) c.in_ok-program.program.elf c.in_ok-program.program.input _ _ _ c.in_ok-loaded.loaded c.join_parts.result c.in_ok-loaded.ensures c.in_ok-program.ensures.faultless (ap (λ (f : Files). f.elf) files) (ap (λ (f : Files). f.input) files) c.join_parts.ensures

pub returns-clause-headline : goal.returns-clause-headline
returns-clause-headline g c =
    let files = c.in_ok-program.ensures.files in
    join-joined (join_words c.args.words.now) c.in_ok-program.program.elf c.in_ok-program.program.input _ _ _ c.in_ok-loaded.loaded c.join_parts.result c.in_ok-loaded.ensures (ap (λ (f : Files). f.elf) files) (ap (λ (f : Files). f.input) files) c.join_parts.ensures
