pub mod Growing
pub mod Telling
