pub mod Drafted
pub mod Intervals
pub mod Stages
