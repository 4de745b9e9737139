pub mod Budgets
pub mod Configs
pub mod Faults
pub mod Rosters
