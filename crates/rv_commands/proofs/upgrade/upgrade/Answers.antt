use Rattle.rv_plan.proofs.Lemmas.{handed-on}
use Rattle.rv_commands.specs.Commands.{upgrade_words}
use Rattle.rv_commands.proofs.Upgrading.{upgrade-performs, upgrade-unread, upgrade-upgraded}
use Rattle.rv_commands.proofs.upgrade.upgrade.Goals as goal

pub returns-in_err-file-clause-performs : goal.returns-in_err-file-clause-performs
returns-in_err-file-clause-performs g c =
    rw (handed-on c.from_residual.result c.in_err-file.field-0.0 c.from_residual.ensures.1)
    (upgrade-unread (upgrade_words c.args.words.now) _ _ c.in_err-file.field-0.0 c.in_err-file.ensures)

pub returns-clause-performs : goal.returns-clause-performs
returns-clause-performs g c =
    upgrade-performs (upgrade_words c.args.words.now) _ _ _ c.in_ok-file.file c.list.result.now c.upgrade_file.result c.in_ok-file.ensures c.list.ensures c.upgrade_file.ensures

pub returns-clause-headline : goal.returns-clause-headline
returns-clause-headline g c =
    upgrade-upgraded (upgrade_words c.args.words.now) _ _ _ c.in_ok-file.file c.list.result.now c.upgrade_file.result c.in_ok-file.ensures c.list.ensures c.upgrade_file.ensures
