mod Noted
mod Underway
mod Dropped
mod Widening
mod Finding
