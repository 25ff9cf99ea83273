use Rattle.std.proofs.Common.{ℕ, List, [], ◌∷◌, ◌++◌, ap, sym, ◌∙◌, append_assoc}
use Rattle.std.specs.Prelude.{codes}
use Rattle.rv_commands.specs.Lines.{field}
use Rattle.rv_commands.proofs.lines.assembled_lines.Goals as goal

pub returns-in-Ok : goal.returns-in-Ok
returns-in-Ok c =
    c.of.ensures ∙ c.in-Ok.ensures.ok
    ∙ ap (λ (line : List ℕ). c.args.listing.now ++ line) (sym (append_assoc (codes "assembled" ++ field (codes "words") c.args.words) (field (codes "bytes") c.args.bytes) (10 ∷ [])))
