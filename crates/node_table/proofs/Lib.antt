mod Filings
pub mod Searches
pub mod Indexes
pub mod Tabled
pub mod WaysBack
pub mod Placing
