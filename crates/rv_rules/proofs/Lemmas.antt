-- The lemmas of this crate that others cite.
pub use Rattle.rv_rules.proofs.ChainCore.{at-is, count-in, in-count, in-map}
pub use Rattle.rv_rules.proofs.ChainLaws.{chain, last_use-is, left_at-is}
pub use Rattle.rv_rules.proofs.DigestLaws.{digest-append}
pub use Rattle.rv_rules.proofs.Members.{all-in, all-of, in-append, in-left, in-map-back, in-right, in-rising, rising-in, rising-rises, same-rising}
pub use Rattle.rv_rules.proofs.InitialCells.{initial-register}
pub use Rattle.rv_rules.proofs.MemoryLaws.{byte-one, byte-outside, extract-loaded, found-insert, word-aligned, word-stored}
pub use Rattle.rv_rules.proofs.MultisetLaws.{count-cons, digest-same, same_tuple-true, sum_by-without, without}
pub use Rattle.rv_rules.proofs.OldValues.{seen-in}
pub use Rattle.rv_rules.proofs.OwnTimes.{rising-differ, written-once}
pub use Rattle.rv_rules.proofs.Conjunctions.{both-true, left-true, right-true, left-false, right-false, and-true, or-false}
pub use Rattle.rv_rules.proofs.ByteLists.{bytes-are, byte-fits, take-bytes, drop-bytes, append-bytes}
