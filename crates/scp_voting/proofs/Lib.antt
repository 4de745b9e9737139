pub mod Bettering
pub mod Honesty
pub mod Mentioning
pub mod SeenVotes
