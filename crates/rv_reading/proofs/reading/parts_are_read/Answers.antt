use Rattle.rv_reading.proofs.Lemmas.{whole-file-is-read, rows-are-read, shards-are-read, entries-are-read}
use Rattle.rv_reading.proofs.reading.parts_are_read.Goals as goal

pub returns-clause-rows : goal.returns-clause-rows
returns-clause-rows c = rows-are-read

pub returns-clause-shards : goal.returns-clause-shards
returns-clause-shards c = shards-are-read

pub returns-clause-entries : goal.returns-clause-entries
returns-clause-entries c = entries-are-read

pub returns-clause-whole : goal.returns-clause-whole
returns-clause-whole c = whole-file-is-read
