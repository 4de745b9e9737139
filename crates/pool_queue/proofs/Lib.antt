pub mod Balances
pub mod Sharing
