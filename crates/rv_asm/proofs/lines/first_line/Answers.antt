use Rattle.std.proofs.Common.{ℕ, List, ◌∷◌, drop, ◌+◌, sym, ap, ◌∙◌}
use Rattle.std.proofs.lemmas.List.{take_rest}
use Rattle.std.specs.Str.Lines.{lines}
use Rattle.rv_asm.proofs.LineLaws.{line-first, line-last}
use Rattle.rv_asm.proofs.lines.first_line.Goals as goal

pub returns-in-Some-clause-lines : goal.returns-in-Some-clause-lines
returns-in-Some-clause-lines c =
    let s = c.args.source.now in
    let at = c.in-Some.at in
    line-first s at (sym c.in-Some.ensures) ∙ ap (λ (l : List ℕ). l ∷ lines (drop (at + 1) s)) (sym c.without_carriage_return.ensures) ∙ ap (λ (r : List ℕ). c.without_carriage_return.result.now ∷ lines r) (sym (take_rest s (at + 1)))

pub returns-in-None-clause-lines : goal.returns-in-None-clause-lines
returns-in-None-clause-lines c = line-last c.args.source.now c.requires (sym c.in-None.ensures)
