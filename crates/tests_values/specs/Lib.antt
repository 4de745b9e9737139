pub mod Deeds
pub mod Counting
