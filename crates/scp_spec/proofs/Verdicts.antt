-- Verdicts over two runs, or over two submissions: that there is one, and only one.
pub mod Determined
pub mod Found
pub mod OfCrowds
pub mod IsolatedRuns
pub mod OneList
