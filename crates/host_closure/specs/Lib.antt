pub mod Announcing
pub mod Turns
pub mod Least
pub mod Hosting
pub mod Parting
