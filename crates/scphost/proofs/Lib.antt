mod PrintingLaws
mod CommandLaws
pub mod HostingLaws
mod RememberingLaws
mod TranslatingLaws
