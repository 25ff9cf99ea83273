use Rattle.std.proofs.Common.{◌∙◌}
use Rattle.rv_judge.proofs.pieces.Judge.finish.Goals as goal

pub returns-clause-accepts : goal.returns-clause-accepts
returns-clause-accepts g c = λ elf input file elf_bytes input_bytes is version size steps end has record-is.
    c.verdict.ensures ∙ is ∙ c.verdicts_conclude.ensures.accepts g.L.Lanes.lanes elf input file elf_bytes input_bytes version size steps end has record-is
