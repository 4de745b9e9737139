pub mod MemberLaws
pub mod SetLists
pub mod WeighingLaws
pub mod Kept
pub mod Fixed
pub mod Region
