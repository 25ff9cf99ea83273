-- the syntax of each instruction
pub mod Syntax
-- the lines of rows
pub mod Listing
-- a step of listing
pub mod Within
