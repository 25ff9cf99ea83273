pub mod Machine
pub mod Moves
pub mod Sorting
pub mod Taking
pub mod Walks
pub mod Wider
