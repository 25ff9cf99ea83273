pub mod CalmShelf
pub mod Counts
pub mod FileMap
pub mod Files
pub mod MemShelf
pub mod MemSink
pub mod Transfers
pub mod Views
