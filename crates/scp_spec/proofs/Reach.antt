-- Whom a node reaches by the slices of its table.
pub mod Chains
pub mod Stays
