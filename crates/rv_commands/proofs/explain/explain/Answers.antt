use Rattle.rv_plan.proofs.Lemmas.{handed-on}
use Rattle.rv_commands.specs.Commands.{explain_words}
use Rattle.rv_commands.proofs.Explaining.{explain-read, explain-unread}
use Rattle.rv_commands.proofs.explain.explain.Goals as goal

pub returns-in_err-file : goal.returns-in_err-file
returns-in_err-file g c =
    rw (handed-on c.from_residual.result c.in_err-file.field-0.0 c.from_residual.ensures.1)
    (explain-unread (explain_words c.args.words.now) _ _ c.in_err-file.field-0.0 c.in_err-file.ensures)

pub returns : goal.returns
returns g c =
    explain-read (explain_words c.args.words.now) _ _ c.in_ok-file.file c.list.result.now c.tell_rows.result c.in_ok-file.ensures c.list.ensures c.tell_rows.ensures
