-- the accesses of a file, and the last of a cell before a step
pub mod Accesses
-- the answers to questions on a file
pub mod Questions
-- the answers on a file that is accepted
pub mod OfRun
-- what is known of cells behind some rows
pub mod Following
