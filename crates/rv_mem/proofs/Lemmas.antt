-- The lemmas about cells and their times that other crates cite.

-- a further touch is the last one of its cell
pub use Rattle.rv_mem.proofs.LeftLaws.{last-snoc, last-more}
