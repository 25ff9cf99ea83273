use Rattle.rv_reading.proofs.Lemmas.{machine-is-stream, extents-are-streams}
use Rattle.rv_reading.proofs.reading.machine_is_stream.Goals as goal

pub returns-clause-file : goal.returns-clause-file
returns-clause-file c = machine-is-stream

pub returns-clause-extents : goal.returns-clause-extents
returns-clause-extents c = extents-are-streams
