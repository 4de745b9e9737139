mod NameLookups
mod Indexing
mod ClosureSteps
mod Walking
mod Readiness
mod Growing
mod Ordering
mod OneOrder
mod Gathering
mod Waking
pub mod Places
mod LeastNames
pub mod Parted
mod Walked
