-- What votes send: that it is well formed, that it never goes back, and that it is what was told last.
pub mod Sendable
pub mod WellFormed
pub mod Growth
pub mod LastSent
pub mod SendableSets
pub mod SendableBallots
pub mod SendablePasses
pub mod SendableCounters
