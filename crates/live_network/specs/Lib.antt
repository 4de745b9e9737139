pub mod Serving
pub mod Steps
pub mod Telling
pub mod Left
pub mod State
pub mod Shown
