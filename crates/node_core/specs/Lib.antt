pub mod Differences
pub mod NodeParts
pub mod Listening
pub mod Filings
pub mod Stirrings
