pub mod Pieces
pub mod Starts
pub mod Checking
pub mod Chaining
