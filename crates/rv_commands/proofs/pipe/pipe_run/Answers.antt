use Rattle.std.proofs.Common.{subst}
use Rattle.rv_point.specs.PointsState.{HasNoSurvey}
use Rattle.rv_commands.proofs.pipe.pipe_run.Goals as goal

pub returns-in-Err-clause-err : goal.returns-in-Err-clause-err
returns-in-Err-clause-err g c =
    c.fault_of.ensures c.args.image.now c.args.input.now c.args.words.now.make.shard (subst (λ n. HasNoSurvey c.args.image.now c.args.input.now c.args.words.now.make.shard n c.in-Err.fault) c.from.ensures c.in-Err.ensures.err)
