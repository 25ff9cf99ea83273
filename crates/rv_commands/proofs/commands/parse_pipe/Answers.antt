use Rattle.std.proofs.Common.{ap, sym, ◌∙◌, Global, string_bytes, Some}
use Rattle.rv_commands.specs.CommandLine.{number, pipe_words}
use Rattle.rv_commands.proofs.Arguments.{no-waiting, piped-words}
use Rattle.rv_commands.proofs.commands.parse_pipe.Goals as goal

pub returns-in_err-make-clause-command : goal.returns-in_err-make-clause-command
returns-in_err-make-clause-command c =
    rw c.from_residual.ensures (piped-words (string_bytes {Z = Global}) c.args.arguments.now c.waiting-item.result c.in-len1-up.len_at_least c.waiting-item.is ∙ ap (λ m. pipe_words m (number 1 64 (string_bytes {Z = Global} c.waiting-item.result))) c.in_err-make.ensures.making)

pub returns-in_err-waiting-clause-command : goal.returns-in_err-waiting-clause-command
returns-in_err-waiting-clause-command c =
    rw c.from_residual-in_err-waiting.ensures
    (piped-words (string_bytes {Z = Global}) c.args.arguments.now c.waiting-item.result c.in-len1-up.len_at_least c.waiting-item.is ∙ ap (pipe_words _) (ap (number 1 64) (sym c.as_str.ensures.value) ∙ sym c.number.ensures.number ∙ c.in_err-waiting.was) ∙ no-waiting _)

pub returns-clause-command : goal.returns-clause-command
returns-clause-command c =
    piped-words (string_bytes {Z = Global}) c.args.arguments.now c.waiting-item.result c.in-len1-up.len_at_least c.waiting-item.is ∙ ap (λ m. pipe_words m (number 1 64 (string_bytes {Z = Global} c.waiting-item.result))) c.in_ok-make.ensures.making
    ∙ ap (pipe_words (Some _)) (ap (number 1 64) (sym c.as_str.ensures.value) ∙ sym c.number.ensures.number ∙ c.in_ok-waiting.was)
