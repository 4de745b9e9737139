pub mod Pairs
pub mod Sums
pub mod Numbers
pub mod Pools
pub mod Deals
pub mod Worked
pub mod Nets
pub mod Crossing
pub mod Crews
pub mod Offers
pub mod Handles
pub mod Hosting
mod AloneLaws
