-- One node: what it sees, what a step makes of it, and what events lead to.
pub mod Views
pub mod Lawful
pub mod Reslices
pub mod Strangers
pub mod Made
pub mod Closed
pub mod Agreement
pub mod Calm
pub mod Quiet
pub mod Emitted
