-- The lemmas about shards and their replay that other crates cite.

-- the pieces of a run that ends are the shards of its record
pub use Rattle.rv_point.proofs.PieceLaws.{pieces-are-shards}
-- the record is made of its header, its output, the pieces and its table
pub use Rattle.rv_point.proofs.PieceLaws.{record-is-pieces}
-- one row more
pub use Rattle.rv_point.proofs.CourseLaws.{rows-more}
-- no more steps than asked for
pub use Rattle.rv_point.proofs.StartLaws.{steps-within}
-- a hart that goes on from the cells of a start replays the shard
pub use Rattle.rv_point.proofs.ReplayLaws.{replays-begin, replays-step}
-- the cells of a start are some that a hart may go on from
pub use Rattle.rv_point.proofs.ReplayLaws.{start-known}
