pub mod Bases
pub mod Clearing
pub mod Syncing
pub mod FromLoads
mod Classes
mod Sorting
mod Chain
pub mod Readings
mod Found
mod Tallies
mod OneFile
mod Meanings
pub mod Asking
pub mod InOrder
mod Examples
mod BaseExamples
mod AskedExamples
