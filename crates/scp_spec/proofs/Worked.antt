-- Worked examples, computed from the definitions.
pub mod Letters
pub mod Everything
pub mod Slices
pub mod Rows
pub mod Reach
pub mod Steps
pub mod Networks
pub mod Leaders
pub mod Passes
pub mod Reslices
pub mod Rosters
