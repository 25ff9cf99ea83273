use Rattle.std.proofs.Common.{List, ℕ, length, ◌++◌, ap, ◌∙◌}
use Rattle.rv_commands.specs.Lines.{assembled_line}
use Rattle.rv_commands.proofs.Assembling.{told-executable}
use Rattle.rv_commands.proofs.asm.executable_of.Goals as goal

pub returns : goal.returns
returns c =
    let words = c.in-Ok.assembled.words in
    told-executable c.args.source.now words c.in-Ok-executable.file c.in-Ok-assembled_lines.text c.in-Ok-listing.listed c.in-Ok.assembled.symbols c.statements_are_held.ensures
    c.in-Ok.ensures.words c.in-Ok.ensures.symbols c.in-Ok-executable.ensures.file c.in-Ok-executable.ensures.faultless c.in-Ok-executable.ensures.words c.in-Ok-listing.ensures
    (c.in-Ok-assembled_lines.ensures ∙ ap (λ (l : List ℕ). l ++ assembled_line (length c.list-words.result.now) (length c.list.result.now)) c.text.ensures
    ∙ ap (λ (ws : List ℕ). c.in-Ok-listing.listed ++ assembled_line (length ws) (length c.list.result.now)) c.list-words.ensures.words
    ∙ ap (λ (f : List ℕ). c.in-Ok-listing.listed ++ assembled_line (length words) (length f)) c.list.ensures)
