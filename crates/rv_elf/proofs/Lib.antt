mod ImageLaws
pub mod FaultLaws
pub mod ScanLaws
pub mod IndexLaws
pub mod Lookups
pub mod HeaderLaws
pub mod ReadLaws
pub mod WriterLaws
pub mod WrittenLaws
pub mod PartLaws
pub mod ProgramLaws
pub mod Lemmas
