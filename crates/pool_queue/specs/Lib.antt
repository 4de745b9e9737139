pub mod Hands
pub mod Queues
pub mod Doing
