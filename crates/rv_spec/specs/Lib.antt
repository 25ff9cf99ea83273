-- The book of what has to be believed, in reading order.
--
-- Words that are used throughout:
--   cell    a number for a place: a word of memory, a register, the reservation
--   slot    a step's reason to use a cell; a step has at most one use in each of 8 slots
--   use     a slot and the cell that a step uses in it
--   visit   a use with the cell's value before the step and after it
--   touch   a slot, a cell and a new value: what a row is expected to do, without the old value
--   access  a visit in a row, with the time of the cell's use before it
--   event   an access with its own time, apart from its row
--   tuple   a cell, a value and a time: what is read and written, and counted

-- bytes, words and memory
pub mod Words
-- the program that an ELF file loads
pub mod Elf
-- instruction words
pub mod Decode
-- operations on registers
pub mod Arithmetic
-- the machine, and one step of it
pub mod Step
-- runs of steps, and how they end
pub mod Run
-- one number for each place that memory checking knows
pub mod Cells
-- which cells a step uses, and what it finds and leaves there
pub mod Visits
-- the trace of a run: a row for each step, and the table of last values
pub mod Trace
-- the additive digest of a list of tuples
pub mod Digest
-- lists of tuples as multisets
pub mod Multiset
-- the tuples that accesses read and write
pub mod Tuples
-- the record of a run: its parts and their bytes
pub mod Record
-- which parts a file spells
pub mod Grammar
-- what an accepted file is
pub mod Conclusion
