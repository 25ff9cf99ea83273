pub mod ByAddress
pub mod ElfFile
pub mod Faults
pub mod Segments
pub mod Index
pub mod Loaded
pub mod Written
pub mod Programs
