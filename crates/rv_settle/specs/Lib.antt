pub mod Settling
pub mod Spelled
pub mod Collecting
