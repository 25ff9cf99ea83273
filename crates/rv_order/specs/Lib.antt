pub mod Order
pub mod OwnTimes
