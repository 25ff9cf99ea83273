-- Definitions that theorems tie to the book of rv_spec. Nothing here has to be believed for what acceptance means.

-- members of lists
pub mod Membership
-- sums of digests, and lanes for tests
pub mod Sums
-- the step that a row has to make, by its own old values
pub mod Expected
-- checks in order, of which the first that is broken is answered
pub mod Checks
-- the rules of one row
pub mod RowRules
-- a file read from its first byte to its last
pub mod Reading
-- the verdict on a file
pub mod Verdict
-- what it means that each access reads the last write to its cell
pub mod Chain
-- the ranges of states, and the agreement of expected steps with the machine
pub mod Agreement
-- the laws of accepted files, of records and of the grammar
pub mod Laws
