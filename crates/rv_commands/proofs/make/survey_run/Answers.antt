use Rattle.std.proofs.Common.{subst}
use Rattle.rv_point.specs.PointsState.{HasNoSurvey}
use Rattle.rv_commands.proofs.make.survey_run.Goals as goal

pub returns-in-Err-clause-err : goal.returns-in-Err-clause-err
returns-in-Err-clause-err c =
    c.fault_of.ensures c.args.image.now c.args.input.now c.args.shard (subst (λ n. HasNoSurvey c.args.image.now c.args.input.now c.args.shard n c.in-Err.fault) c.from.ensures c.in-Err.ensures.err)
