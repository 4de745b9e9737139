mod Keeping
mod JoiningLaws
mod Origins
mod NumberedRows
mod HearingLaws
mod OutsAtPlaces
mod MarkedEmissions
pub mod FollowedLaws
pub mod HistoryLaws
mod Configured
pub mod OneCut
mod DeterminedLaws
pub mod DeterminedRuns
mod CrowdLines
mod ExplainedTexts
mod Histories
mod LineLaws
mod DeterminedEnds
