pub mod Heads
pub mod Cutting
pub mod Alone
pub mod Summaries
pub mod Combining
pub mod Joining
pub mod RecordInParts
