use Rattle.std.proofs.Common.{◌≡◌, ℕ, List, [], ◌∷◌, ◌++◌, sym, ap, ◌∙◌, append_assoc}
use Rattle.std.specs.Prelude.{codes}
use Rattle.rv_commands.specs.Lines.{field}
use Rattle.rv_commands.proofs.lines.refused_line.Goals as goal

regrouped : (a b c d e : List ℕ) → (((a ++ b) ++ c) ++ d) ++ e ≡ a ++ (b ++ (c ++ (d ++ e)))
regrouped a b c d e = simp append_assoc

abbrev text_of : ℕ → ℕ → ℕ → List ℕ → List ℕ
text_of shard row rule name = (((codes "refused" ++ field (codes "shard") shard ++ field (codes "row") row) ++ field (codes "rule") rule) ++ 32 ∷ name) ++ 10 ∷ []

pub returns-in-Ok : goal.returns-in-Ok
returns-in-Ok c =
    let r = c.args.refusal in
    c.of.ensures ∙ c.in-Ok.ensures.ok
    ∙ sym (regrouped (codes "refused" ++ field (codes "shard") r.shard) (field (codes "row") r.row) (field (codes "rule") r.rule) (32 ∷ c.rule_name-name.result.now) (10 ∷ []))
    ∙ ap (text_of r.shard r.row r.rule) c.rule_name-name.ensures
