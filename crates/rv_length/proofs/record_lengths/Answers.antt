use Rattle.rv_length.proofs.RecordOfRun.{within-bound, within-limit}
use Rattle.rv_length.proofs.record_lengths.Goals as goal

pub returns-clause-bound : goal.returns-clause-bound
returns-clause-bound c = within-bound

pub returns-clause-limit : goal.returns-clause-limit
returns-clause-limit c = within-limit
