pub mod AsBox
pub mod Handles
