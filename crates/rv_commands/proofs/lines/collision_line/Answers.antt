use Rattle.std.proofs.Common.{◌≡◌, ℕ, List, [], ◌∷◌, ◌++◌, sym, ◌∙◌, append_assoc}
use Rattle.std.specs.Prelude.{codes}
use Rattle.rv_commands.specs.Lines.{field}
use Rattle.rv_commands.proofs.lines.collision_line.Goals as goal

regrouped : (a b c d e f : List ℕ) → ((((a ++ b) ++ c) ++ d) ++ e) ++ f ≡ a ++ (b ++ (c ++ (d ++ (e ++ f))))
regrouped a b c d e f = simp append_assoc

pub returns-in-Ok : goal.returns-in-Ok
returns-in-Ok c =
    let t = c.args.tuple in
    c.of.ensures ∙ c.in-Ok.ensures.ok
    ∙ sym (regrouped (codes "settled collision" ++ field (codes "cell") t.cell) (field (codes "value") t.value) (field (codes "time") t.time) (field (codes "reads") c.args.reads) (field (codes "writes") c.args.writes) (10 ∷ []))
