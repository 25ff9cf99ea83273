pub mod Stream
pub mod Machine
pub mod Parts
pub mod Judging
