-- The lemmas about reading a file that other crates cite.

-- a bind that answers had an answer first
pub use Rattle.rv_file.proofs.Steps.{bind-ok}
-- what is answered unless a check is broken: then none is broken, and the answer is the one given
pub use Rattle.rv_file.proofs.Steps.{unless-ok}
-- and conversely
pub use Rattle.rv_file.proofs.Steps.{unless-holds}
-- equal answers have equal values
pub use Rattle.rv_file.proofs.Steps.{ok-is}
-- the reading of rows for their form alone
pub use Rattle.rv_file.proofs.RowLists.{row_in, rows_in, with_row}
-- the reading of shards for their form alone, and its steps
pub use Rattle.rv_file.proofs.ShardLaws.{shard_in, shards_in, with_shard, agrees, begins, made, ends}
-- where no check of the front is broken, the first that is broken is one behind them
pub use Rattle.rv_file.proofs.HeaderChecks.{front-holds}
-- the reading of a file for its form alone, and its steps
pub use Rattle.rv_file.proofs.FileLaws.{ends_parse, after_header, after_shards, after_count, all_checks}
-- these steps are the reading of the definition
pub use Rattle.rv_file.proofs.FileLaws.{parse-is}
-- what some parts spell is read as these parts
pub use Rattle.rv_file.proofs.FileLaws.{is-parsed}
-- a file spells one list of parts
pub use Rattle.rv_file.proofs.FileLaws.{one-spelling}
-- the form of a file is good exactly where some parts spell it
pub use Rattle.rv_file.proofs.FileLaws.{form-is-grammar}
-- a shard that fits has a head in its ranges and the size that it states, and at the front of bytes its head is read again
pub use Rattle.rv_file.proofs.Showing.{IsShard, is-shard, first-head}
-- the shards of a file of good form, one behind the other, and what is behind the first of them
pub use Rattle.rv_file.proofs.Showing.{are-shards, shards-are, walks, holds-one, behind-one, behind-none}
-- a head that fits its ranges
pub use Rattle.rv_file.proofs.ShardLaws.{head-fits}
-- how many bytes the parts of a file have
pub use Rattle.rv_file.proofs.HeaderLaws.{length-header_bytes}
pub use Rattle.rv_file.proofs.ShardLaws.{length-head_bytes}
pub use Rattle.rv_file.proofs.RowLists.{length-rows}
pub use Rattle.rv_file.proofs.Cells.{length-digest_bytes}
pub use Rattle.rv_file.proofs.EntryLaws.{length-entries}
-- what a header and shards spell is read as these
pub use Rattle.rv_file.proofs.HeaderLaws.{header-again}
pub use Rattle.rv_file.proofs.ShardLaws.{shards-read}
