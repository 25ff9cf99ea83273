pub mod SlotsOfStep
pub mod MemoryWords
pub mod TableOfRun
pub mod ShardsOfRun
pub mod RecordOfRun
