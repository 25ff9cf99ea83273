-- The lemmas about instruction words that other crates cite.

-- a word that decodes to an instruction is the instruction's encoding
pub use Rattle.rv_decode.proofs.TableRows.{decode-spells}
-- and an instruction in its ranges has a word that decodes to it
pub use Rattle.rv_decode.proofs.FormatWords.{word_of-decodes}
pub use Rattle.rv_decode.proofs.AtomicRows.{decode_atomic-spells, word_of_atomic-decodes, atomic-apart}
