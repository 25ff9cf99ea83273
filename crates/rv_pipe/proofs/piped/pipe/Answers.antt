use Rattle.std.proofs.Common.{subst}
use Rattle.rv_point.specs.PointsState.{HasNoSurvey}
use Rattle.rv_point.specs.WalkState.{WalkState}
use Rattle.rv_pipe.proofs.piped.pipe.Goals as goal

pub returns-in-Err-clause-err : goal.returns-in-Err-clause-err
returns-in-Err-clause-err g c = subst (λ (w : WalkState). HasNoSurvey w.image w.input w.size w.budget c.in-Err.fault) c.open-walk.ensures c.in-Err.ensures.err
