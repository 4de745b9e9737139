pub mod Watching
pub mod Regions
pub mod Words
pub mod Listing
pub mod Forms
pub mod Grouping
pub mod Knowing
pub mod Listening
