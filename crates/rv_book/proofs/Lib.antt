pub mod Lemmas
pub mod Entering
pub mod Whole
pub mod BoardLaws
pub mod BoardSums
pub mod BoardSteps
