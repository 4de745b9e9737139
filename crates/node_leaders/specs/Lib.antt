pub mod Drawing
pub mod Leaders
pub mod Purposes
pub mod Walk
