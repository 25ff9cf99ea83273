use Rattle.std.proofs.Common.{[], ◌∷◌, ◌++◌, sym, ◌∙◌, append_assoc}
use Rattle.std.specs.Prelude.{codes}
use Rattle.rv_commands.specs.Lines.{field}
use Rattle.rv_commands.proofs.lines.split_line.Goals as goal

pub returns-in-Ok : goal.returns-in-Ok
returns-in-Ok c =
    c.of.ensures ∙ c.in-Ok.ensures.ok ∙ sym (append_assoc (codes "split" ++ field (codes "parts") c.args.parts) (field (codes "bytes") c.args.bytes) (10 ∷ []))
