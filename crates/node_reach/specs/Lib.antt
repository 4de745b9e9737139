pub mod Sweeps
pub mod Keeping
pub mod Widening
pub mod Searching
