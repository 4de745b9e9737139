pub mod Numbers
pub mod Sums
pub mod Spares
pub mod NetSights
pub mod Nets
pub mod Joining
pub mod HostStates
pub mod Alone
