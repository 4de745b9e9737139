-- The order of ballots, and the greatest or least of what passes a test.
pub mod Order
pub mod Above
pub mod Greatest
pub mod LeastCounters
