mod WordRanges
mod ByteLists
mod SignedWords
mod Results
mod Uses
mod Registers
mod Operations
mod Jumps
mod Loads
mod Stores
mod Atomics
mod Calls
mod Slots
mod Fields
mod Agreement
mod States
mod Frame
mod LastUses
pub mod Made
pub mod Fetched
pub mod Covered
mod Seeing
mod Placed
mod EarlierUses
mod Stepping
mod LeftUses
mod ExpectedCovers
mod ExpectedShape
mod TurnRanges
mod UsesAreCells
mod RunRanges
mod Restored
mod HartLaws
mod MachineLaws
mod TableOfRun
pub mod Lemmas
