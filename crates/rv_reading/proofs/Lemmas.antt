-- The lemmas that other crates cite.

-- on a whole file the machine breaks the check that the definition breaks, and its verdict is the definition's
pub use Rattle.rv_reading.proofs.FileRead.{judged-is-read, verdict-is-told}
-- header and output in front, and then any bytes: judged in order, and a refused front stays refused
pub use Rattle.rv_reading.proofs.FrontRead.{front-is-judged, verdict-behind-front, refused-at-front, front-stays-refused}
-- the machine in pieces: it is a stream, cuts don't matter, and its state tells refusals or waits with fewer than 256 bytes
pub use Rattle.rv_reading.proofs.Pieces.{machine-is-stream, extents-are-streams, pieces-join, cuts-dont-matter, state-tells-refusals, refusals-stay, states-wait}
-- the state behind header, output and any bytes tells what the file is refused by, or waits with fewer than 256 bytes
pub use Rattle.rv_reading.proofs.Pieces.{state-tells-file, file-stays-refused, file-state-waits}
-- rows, shards and entries are read as by the definition, also shards and the table alone; a whole file is read by the steps as they are
pub use Rattle.rv_reading.proofs.FileRead.{whole-file-is-read}
pub use Rattle.rv_reading.proofs.RowsRead.{rows-are-read}
pub use Rattle.rv_reading.proofs.ShardsRead.{shards-are-read, shard-alone-is-read, shards-alone-are-read}
pub use Rattle.rv_reading.proofs.TableRead.{entries-are-read, table-alone-is-read}
-- of any stream: reading is a step and then reading, also with more bytes behind, and what waits is refused by rule 1 or not at all
pub use Rattle.rv_reading.proofs.StreamLaws.{reads-step, reads-goes, reads-stops, waiting-refused}
-- what lies at the front of bytes is read the same, whatever comes behind
pub use Rattle.rv_reading.proofs.Fronts.{head-front, digest-front, header-front}
-- steps that may refuse, one after another
pub use Rattle.rv_reading.proofs.Binding.{bind-assoc, bind-same, checks-bind, checks-value}
pub use Rattle.rv_reading.proofs.StreamLaws.{state-tells, state-refuses}
-- checks of which none is broken
pub use Rattle.rv_reading.proofs.CheckLists.{AllHold, Passed, Passed-first_broken, Passed-others, Passed-other, all-hold}
