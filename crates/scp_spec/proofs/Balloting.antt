-- The rules of balloting: what each moves, and what stays as it is.
pub mod Tests
pub mod FairSight
pub mod Moves
pub mod PreparedStays
pub mod CommittedStays
pub mod ConfirmedAlone
pub mod Named
pub mod OwnPosition
pub mod Counters
pub mod GreatestOfOne
pub mod EntersCommit
pub mod Decides
pub mod WidensCommit
