-- the record of the run of a generated program, and what is told of it
pub mod Trials
-- its making
pub mod Recording
