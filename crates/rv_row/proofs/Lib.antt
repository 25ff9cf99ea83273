pub mod Lemmas
pub mod Filling
pub mod Numbers
pub mod RowLaws
pub mod RowAnswers
