mod Begins
mod Listing
pub mod Growing
mod Spelled
mod OutsAt
mod Configured
pub mod SlicesThen
pub mod DecidedOnce
pub mod DecisionLists
pub mod Crossing
