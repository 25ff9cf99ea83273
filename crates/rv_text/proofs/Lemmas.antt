-- The lemmas about going through rows and shards that other crates cite.

-- the row at the front of some rows' bytes, and the bytes behind it
pub use Rattle.rv_text.proofs.RowSteps.{take-rest, not-row, row-there}
-- the rows of a shard, as many as its header tells
pub use Rattle.rv_text.proofs.Shards.{rows_in, rows-exact, sized}
-- the shards of a body, one after another
pub use Rattle.rv_text.proofs.Shards.{BeginsWith, next-shard, behind, digests, rows-behind-head}
-- the element at a place of a list
pub use Rattle.rv_text.proofs.Within.{at-place}
-- eight hexadecimal digits, as a format writes them
pub use Rattle.rv_text.proofs.Padded.{padded}
pub use Rattle.rv_text.proofs.Digits.{length-hex}
