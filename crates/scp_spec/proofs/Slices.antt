-- Slices: what satisfies them and what blocks them, and the quorums that they make.
pub mod Satisfaction
pub mod Quorums
