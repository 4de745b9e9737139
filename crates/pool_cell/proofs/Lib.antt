pub mod Growing
pub mod Moves
pub mod Seats
pub mod Counts
pub mod Closing
pub mod Published
pub mod Crossing
