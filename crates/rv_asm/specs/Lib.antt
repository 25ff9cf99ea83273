-- what stands on a line of a source
pub mod Lines
-- numbers, names and registers
pub mod Numbers
-- the instructions by their mnemonics, and the ranges of their numbers
pub mod Patterns
-- what a statement spells
pub mod Statements
-- the labels of a source
pub mod Symbols
-- words, symbols and faults of a source
pub mod Assembly
-- the lines that show what a source was assembled into
pub mod Listing
-- the executable of words
pub mod Executable
-- the laws
pub mod Laws
