use Rattle.std.proofs.Common.{refl, ap, ◌∙◌}
use Rattle.rv_plan.proofs.Lemmas.{handed-on}
use Rattle.rv_commands.specs.Commands.{make_words}
use Rattle.rv_commands.specs.Lines.{made_line}
use Rattle.rv_commands.proofs.Making.{record-torn, record-written}
use Rattle.rv_commands.proofs.recording.write_parts.Goals as goal

pub returns-in_err-write_files-clause-performs : goal.returns-in_err-write_files-clause-performs
returns-in_err-write_files-clause-performs g c =
    let w = make_words c.args.words.now in
    rw (handed-on c.from_residual.result c.in_err-write_files.field-0.0 c.from_residual.ensures.1)
    (record-torn w c.args.loaded.now.elf c.args.loaded.now.input c.args.ended.now _ _ _ c.in_err-write_files.field-0.0 c.requires.ended c.requires.parts c.in_err-write_files.ensures)

pub returns-clause-performs : goal.returns-clause-performs
returns-clause-performs g c =
    let e = c.args.ended.now in
    record-written (make_words c.args.words.now) c.args.loaded.now.elf c.args.loaded.now.input e _ _ _ _ c.requires.ended c.requires.parts refl
    (c.in-Ok.ensures ∙ ap (made_line e.steps e.shards e.end) c.in-Some.ensures) c.in_ok-write_files.ensures
