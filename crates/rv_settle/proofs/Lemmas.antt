-- The lemmas about verdicts that other crates cite.

-- what an accepted, or a refused, verdict is of
pub use Rattle.rv_settle.proofs.Concluding.{accepted, refused}
