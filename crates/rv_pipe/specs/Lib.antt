pub mod Machine
pub mod MachineLaws
pub mod Hands
pub mod Rule
pub mod Due
pub mod Took
pub mod Made
pub mod Whole
