mod Backed
pub mod GoneRows
pub mod RunLaws
pub mod TellsOnce
