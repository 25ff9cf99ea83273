use Rattle.rv_point.proofs.PieceLaws.{pieces-are-shards, record-is-pieces}
use Rattle.rv_point.proofs.laws.pieces.Goals as goal

pub returns-clause-shards : goal.returns-clause-shards
returns-clause-shards c = pieces-are-shards

pub returns-clause-file : goal.returns-clause-file
returns-clause-file c = record-is-pieces
