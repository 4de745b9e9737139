pub mod Decisions
pub mod PoolLines
pub mod Opening
pub mod Dealing
pub mod Pooling
pub mod Errands
