pub mod Histories
mod Inserting
mod ByNumber
pub mod Crossing
pub mod Leaving
