pub mod CommandLine
pub mod Commands
pub mod Options
pub mod Replays
pub mod Subjects
pub mod Words
pub mod Help
