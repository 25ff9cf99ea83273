use Rattle.rv_point.proofs.ReplayLaws.{replays-begin, replays-step}
use Rattle.rv_point.proofs.laws.replays.Goals as goal

pub returns-clause-begin : goal.returns-clause-begin
returns-clause-begin c = replays-begin

pub returns-clause-step : goal.returns-clause-step
returns-clause-step c = replays-step
