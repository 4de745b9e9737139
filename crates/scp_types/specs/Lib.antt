pub mod Trees
pub mod Shape
pub mod ShapeFalls
pub mod Orders
pub mod Nominations
pub mod Statements
pub mod Votes
pub mod LentStatements
