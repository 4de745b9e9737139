-- Networks and their journals: what runs lead to, and what they count.
pub mod Journals
pub mod Effects
pub mod Instances
pub mod SlicesOfRuns
pub mod Counts
pub mod Room
pub mod OpenSlots
pub mod Refusals
pub mod Drawn
