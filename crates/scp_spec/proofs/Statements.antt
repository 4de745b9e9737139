-- Which statement is newer, and the rows that offers leave in a table.
pub mod Newer
pub mod Offers
pub mod Histories
pub mod Found
