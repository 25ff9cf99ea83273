pub mod Lemmas
pub mod Cases
pub mod ChMaj
pub mod LaneLemmas
pub mod Numbers
pub mod ShortMessages
pub mod MoreTuples
pub mod Takes
