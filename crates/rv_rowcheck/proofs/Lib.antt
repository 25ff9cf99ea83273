mod Compared
mod InOnePass
mod FirstIn
mod ExpectedPlace
pub mod AfterRow
pub mod Lemmas
