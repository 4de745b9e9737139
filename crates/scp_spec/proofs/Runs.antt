-- Runs as a closed set sees them: its answers follow from the steps that concern it.
pub mod Sights
pub mod Follows
pub mod Events
pub mod KeptSteps
pub mod Hosts
pub mod SameClosures
pub mod Prefixes
pub mod Agreements
pub mod Claims
pub mod Unkept
pub mod Hearings
pub mod Openings
pub mod KeptWithin
pub mod SameSteps
