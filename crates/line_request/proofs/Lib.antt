mod OutlineLaws
mod RosterLaws
mod SayingLaws
pub mod SayLaws
pub mod DigitLaws
pub mod FieldLaws
pub mod BackLaws
