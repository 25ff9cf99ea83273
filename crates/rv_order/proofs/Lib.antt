pub mod TupleOrder
pub mod Differences
pub mod LastUse
pub mod Pigeonhole
pub mod Converse
pub mod Lemmas
