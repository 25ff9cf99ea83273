-- The lemmas that other crates cite.

-- a header that the checks of a front gave meets the condition of `check_shard` and `check_table`
pub use Rattle.rv_judge.proofs.Headers.{header-checked}
-- the first bytes of a file, as many as its header tells, meet the condition of `Judge::new`
pub use Rattle.rv_judge.proofs.Headers.{whole-front}
-- the header is told by the first bytes alone
pub use Rattle.rv_judge.proofs.Fronts.{header-taken}
