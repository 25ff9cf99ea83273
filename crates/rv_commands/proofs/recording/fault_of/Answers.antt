use Rattle.std.proofs.Common.{refl, subst}
use Rattle.rv_point.specs.PointsState.{HasNoSurvey}
use Rattle.rv_commands.proofs.recording.fault_of.Goals as goal

pub returns-in-Budget : goal.returns-in-Budget
returns-in-Budget c = λ i input size h. (refl, subst (HasNoSurvey i input size c.args.budget) c.in-Budget.is h)

pub returns-in-Shards : goal.returns-in-Shards
returns-in-Shards c = λ i input size h. (refl, (_, subst (HasNoSurvey i input size c.args.budget) c.in-Shards.is h))
