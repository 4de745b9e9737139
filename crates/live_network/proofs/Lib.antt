pub mod Leading
mod Silence
