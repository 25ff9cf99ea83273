use Rattle.rv_judge.proofs.Concluding.{concluded, accepted}
use Rattle.rv_judge.proofs.laws.verdicts_conclude.Goals as goal

pub returns-clause-sound : goal.returns-clause-sound
returns-clause-sound c = λ lanes elf input file. concluded lanes elf input file (λ parts. c.soundness.ensures lanes elf input file parts)

pub returns-clause-accepts : goal.returns-clause-accepts
returns-clause-accepts c = λ lanes elf input file. accepted lanes elf input file (λ version size steps end. c.completeness.ensures lanes version elf input size steps end)
