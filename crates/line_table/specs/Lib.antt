pub mod BadLines
pub mod Listeners
pub mod TableLines
