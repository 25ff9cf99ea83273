-- The lemmas that other crates cite.

-- the next row can be judged at the place after one that breaks no rule
pub use Rattle.rv_rowcheck.proofs.AfterRow.{next-place}
