pub mod Spelling
pub mod Ends
pub mod AllTold
pub mod Lemmas
pub mod ShardLengths
pub mod Recorded
pub mod Told
