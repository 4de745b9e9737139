pub mod Places
pub mod Met
pub mod Few
pub mod Moving
pub mod Searching
pub mod Answering
pub mod Asking
