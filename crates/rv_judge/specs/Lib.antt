pub mod Subject
pub mod Phases
pub mod Held
pub mod Alone
pub mod Conclusions
