pub mod Asked
pub mod Dealing
pub mod Parts
pub mod Sharded
