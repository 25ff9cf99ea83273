use Rattle.rv_trial.proofs.Spelling.{program-file}
use Rattle.rv_trial.proofs.generated.generated.Goals as goal

pub returns-clause-elf : goal.returns-clause-elf
returns-clause-elf c = program-file c.args.number c.args.size c.in_ok-made.made.elf c.in_ok-made.made.input c.in_ok-made.ensures
