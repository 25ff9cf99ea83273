use Rattle.std.proofs.Common.{◌∙◌}
use Rattle.rv_judge.proofs.whole.judge.Goals as goal

pub returns-clause-accepts : goal.returns-clause-accepts
returns-clause-accepts g c = λ version size steps end has is. c.verdict_of.ensures ∙ c.concludes.ensures.accepts g.L.Lanes.lanes version size steps end has is
