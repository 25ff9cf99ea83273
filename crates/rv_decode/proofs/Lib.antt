pub mod WordFields
pub mod TableRows
pub mod FormatWords
pub mod AtomicRows
pub mod OneRow
pub mod Lemmas
