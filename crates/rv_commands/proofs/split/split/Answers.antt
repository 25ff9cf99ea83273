use Rattle.rv_plan.proofs.Lemmas.{handed-on}
use Rattle.rv_commands.specs.Commands.{split_words}
use Rattle.rv_commands.proofs.Splitting.{split-cut, split-performs, split-unread}
use Rattle.rv_commands.proofs.split.split.Goals as goal

pub returns-in_err-file-clause-performs : goal.returns-in_err-file-clause-performs
returns-in_err-file-clause-performs g c =
    rw (handed-on c.from_residual.result c.in_err-file.field-0.0 c.from_residual.ensures.1)
    (split-unread (split_words c.args.words.now) _ _ c.in_err-file.field-0.0 c.in_err-file.ensures)

pub returns-clause-performs : goal.returns-clause-performs
returns-clause-performs g c =
    split-performs (split_words c.args.words.now) _ _ _ c.in_ok-file.file c.list.result.now c.split_file.result c.in_ok-file.ensures c.list.ensures c.split_file.ensures

pub returns-clause-headline : goal.returns-clause-headline
returns-clause-headline g c =
    split-cut (split_words c.args.words.now) _ _ _ c.in_ok-file.file c.list.result.now c.split_file.result c.in_ok-file.ensures c.list.ensures c.split_file.ensures
