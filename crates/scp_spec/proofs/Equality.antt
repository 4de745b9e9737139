-- Equality, tested and decided.
pub mod Sameness
pub mod Decisions
pub mod Steps
pub mod FirstDifference
pub mod LeastNumber
