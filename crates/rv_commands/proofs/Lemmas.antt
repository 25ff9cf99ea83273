-- The lemmas about what the commands answer that other crates cite.

-- over files that tell nothing and whose reads never fail, no answer is that of a failed read
pub use Rattle.rv_commands.proofs.Unread.{calm-answer}
-- what check answers to the record that make or pipe made
pub use Rattle.rv_commands.proofs.CheckOfMade.{check-of-made}
