use Rattle.rv_commands.proofs.top.perform_alone.Goals as goal

pub returns-in-Trial-clause-performs : goal.returns-in-Trial-clause-performs
returns-in-Trial-clause-performs g c = rw c.in-Trial.is (c.trial.ensures.performs (g.S.Shelf.view c.args.shelf.now))
