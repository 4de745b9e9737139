pub mod Stops
pub mod Hosting
pub mod Commands
pub mod Printing
pub mod Remembering
pub mod Reporting
pub mod Translating
