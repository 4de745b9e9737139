-- Networks with rosters: what strangers cannot take from members.
pub mod Views
pub mod Runs
pub mod Members
pub mod WithoutRoster
pub mod Lengths
pub mod Concerned
pub mod Others
