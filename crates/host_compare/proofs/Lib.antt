pub mod KeptSteps
pub mod OutLaws
pub mod Judging
pub mod HistoryVerdicts
pub mod ManyLaws
pub mod Crossing
mod SameSteps
mod RosterSets
mod ConcerningSteps
mod RunsOf
mod CrowdJudging
mod IndexLaws
