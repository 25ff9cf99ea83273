-- The lemmas about generated programs that other crates cite.

-- each generated program ends with success
pub use Rattle.rv_gen.proofs.Success.{programs-succeed}
-- what its executable loads
pub use Rattle.rv_gen.proofs.Success.{program-image}
-- so many steps are within the limit of shards
pub use Rattle.rv_gen.proofs.Success.{few-shards}
-- the encodings of a program's instructions spell it
pub use Rattle.rv_gen.proofs.Spelled.{program-spelled}
