pub mod LaneSums
pub mod Waiting
