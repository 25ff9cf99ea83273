pub mod Places
pub mod Gaining
pub mod Spelling
pub mod Concluding
pub mod Lemmas
