-- Lemmas that other crates may cite.

-- a sum that stands for a list, and the lanes of one more tuple added to it, stand for the list with that tuple
pub use Rattle.rv_lanes.proofs.MoreTuples.{digest-added}
