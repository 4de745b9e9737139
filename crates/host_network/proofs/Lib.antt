mod Allowed
mod Carried
mod Counting
pub mod Crossing
mod Done
mod Drawing
mod EarlyFaults
mod Emitted
mod FewOuts
mod Forgetting
mod Handings
mod Indexes
pub mod KeyPlaces
mod Numbering
mod OfSlots
mod Openings
mod Placed
pub mod Planned
mod Plans
mod ReadLengths
pub mod Readings
mod HostedAt
mod SlotPlaceLaws
mod TallyLaws
mod EmissionsByKind
mod Tidiness
