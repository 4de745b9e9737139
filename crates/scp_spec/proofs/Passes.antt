-- Passes over the rules: how many are enough, and which rules a row of one kind stirs.
pub mod RuleByRule
pub mod Ends
pub mod Settling
pub mod RowsOfKinds
pub mod RulesOfKinds
pub mod Stirring
pub mod OnePass
pub mod FourPasses
pub mod KeptByPasses
