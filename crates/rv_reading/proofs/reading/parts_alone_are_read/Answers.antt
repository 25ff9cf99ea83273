use Rattle.rv_reading.proofs.Lemmas.{shard-alone-is-read, shards-alone-are-read, table-alone-is-read}
use Rattle.rv_reading.proofs.reading.parts_alone_are_read.Goals as goal

pub returns-clause-shard : goal.returns-clause-shard
returns-clause-shard c = shard-alone-is-read

pub returns-clause-shards : goal.returns-clause-shards
returns-clause-shards c = shards-alone-are-read

pub returns-clause-table : goal.returns-clause-table
returns-clause-table c = table-alone-is-read
