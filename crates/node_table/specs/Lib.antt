pub mod Senders
pub mod Places
pub mod Puts
pub mod Numbers
pub mod NumberBack
