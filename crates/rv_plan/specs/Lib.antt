pub mod Lines
pub mod Faults
pub mod Plan
pub mod Endings
pub mod FileCalls
pub mod Answers
