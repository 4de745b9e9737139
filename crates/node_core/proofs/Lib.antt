pub mod Settles
pub mod StirredRows
pub mod StirredPasses
pub mod Emissions
pub mod Sendings
pub mod Answered
pub mod AddedRows
pub mod Idle
