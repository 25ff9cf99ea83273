-- The lemmas about uses in time order that other crates cite.

-- no use of a cell before a time is later than the last one
pub use Rattle.rv_order.proofs.LastUse.{last_use-most}
-- the last use is one of the uses, or there is none and it is 0
pub use Rattle.rv_order.proofs.LastUse.{last_use-in}
-- it is before the time
pub use Rattle.rv_order.proofs.LastUse.{last_use-lt}
-- accesses with times of their own that form a chain are ordered
pub use Rattle.rv_order.proofs.Converse.{ordered as chain-ordered}
-- and then all that is read and all that is written are one multiset
pub use Rattle.rv_order.proofs.Converse.{same as chain-same}
