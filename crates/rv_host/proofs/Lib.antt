pub mod Lemmas
pub mod CallLaws
pub mod FileLaws
pub mod FileMapLaws
