pub mod Faults
pub mod Resuming
