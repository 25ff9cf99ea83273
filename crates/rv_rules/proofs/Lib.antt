pub mod Lemmas
pub mod Computes
mod Conjunctions
mod ByteLists
mod DigestLaws
mod MultisetLaws
mod ChainCore
mod OwnTimes
mod Members
mod ChainLaws
mod OldValues
mod MemoryLaws
mod InitialCells
pub mod VerdictExamples
mod BrokenFiles
