use Rattle.std.proofs.Common.{List, ℕ, [], ◌++◌, ◌∙◌, append-nil, refl}
use Rattle.rv_plan.proofs.Lemmas.{handed-on}
use Rattle.rv_commands.specs.Commands.{asm_words}
use Rattle.rv_commands.proofs.Assembling.{source-refused, source-torn, source-written}
use Rattle.rv_commands.proofs.asm.write_executable.Goals as goal

pub returns-in_err-made : goal.returns-in_err-made
returns-in_err-made g c =
    rw (handed-on c.from_residual.result c.in_err-made.field-0.0 c.from_residual.ensures.1)
    (source-refused (asm_words c.args.words.now) c.args.source.now _ c.in_err-made.field-0.0 c.in_err-made.ensures)

pub returns-in_err-write_files : goal.returns-in_err-write_files
returns-in_err-write_files g c =
    let bytes : List ℕ = c.list.result.now ++ [] in
    rw (handed-on c.from_residual-in_err-write_files.result c.in_err-write_files.field-0.0 c.from_residual-in_err-write_files.ensures.1)
    (source-torn (asm_words c.args.words.now) c.args.source.now c.in_ok-made.made.file c.in_ok-made.made.text bytes _ _ c.in_ok-made.ensures (append-nil c.list.result.now ∙ c.list.ensures)
    c.in_err-write_files.field-0.0 c.in_err-write_files.ensures)

pub returns : goal.returns
returns g c =
    let bytes : List ℕ = c.list.result.now ++ [] in
    source-written (asm_words c.args.words.now) c.args.source.now c.in_ok-made.made.file c.in_ok-made.made.text bytes _ _ c.in_ok-made.ensures (append-nil c.list.result.now ∙ c.list.ensures)
    _ refl refl c.in_ok-write_files.ensures
