pub mod Names
pub mod Alone
pub mod Hosting
mod TextLaws
