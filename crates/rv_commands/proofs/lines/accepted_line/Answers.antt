use Rattle.std.proofs.Common.{◌≡◌, ℕ, List, [], ◌∷◌, ◌++◌, sym, ◌∙◌, append_assoc}
use Rattle.std.specs.Prelude.{codes}
use Rattle.rv_commands.specs.Lines.{field}
use Rattle.rv_commands.proofs.lines.accepted_line.Goals as goal

regrouped : (a b c d e : List ℕ) → ((a ++ b) ++ (c ++ d)) ++ e ≡ a ++ (b ++ (c ++ (d ++ e)))
regrouped a b c d e = simp append_assoc

pub returns-in-Ok : goal.returns-in-Ok
returns-in-Ok c =
    let end = c.args.end in
    c.of.ensures ∙ c.in-Ok.ensures.ok ∙ sym (regrouped (codes "accepted" ++ field (codes "steps") c.args.steps) (field (codes "shards") c.args.shards) (field (codes "end") end.kind) (field (codes "code") end.code) (10 ∷ []))
