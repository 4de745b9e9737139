pub mod FormLaws
pub mod CallLaws
pub mod Short
pub mod Fronts
