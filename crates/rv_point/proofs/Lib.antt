mod StartExample
mod PieceLaws
mod SharedSteps
mod LatestUse
mod FirstUses
mod Kept
mod LeftTuples
mod RunFirsts
mod SortedEntries
mod CourseLaws
mod Collected
mod StartLaws
mod WalkLaws
mod ReplayLaws
pub mod Lemmas
