-- Lists, tests, numbers, and sets of finitely many names: what is among them, and the least set that keeps a list of
-- rules.
pub mod Finite
pub mod Lists
pub mod Least
pub mod RuleLists
pub mod Contained
pub mod Derived
pub mod Mapped
pub mod Numbers
pub mod Tests
