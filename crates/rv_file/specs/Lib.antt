pub mod Front
pub mod Skipping
pub mod Parsing
