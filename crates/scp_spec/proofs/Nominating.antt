-- Nomination: sets of values, and what its rules make of them.
pub mod ValueSets
pub mod Combined
pub mod Sets
pub mod Rests
pub mod Ascending
pub mod Lengths
