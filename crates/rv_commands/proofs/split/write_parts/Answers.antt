use Rattle.std.proofs.Common.{ap, ◌∙◌, length, refl}
use Rattle.rv_commands.specs.Lines.{split_line}
use Rattle.rv_commands.proofs.Splitting.{bytes-are}
use Rattle.rv_commands.proofs.split.write_parts.Goals as goal

pub returns : goal.returns
returns g c = (refl, c.in-Ok.ensures ∙ ap (split_line c.args.parts) (c.in-Some.ensures ∙ ap length (bytes-are c.args.files.now)), c.in_ok-write_files.ensures)
